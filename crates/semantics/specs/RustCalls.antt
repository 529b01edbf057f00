-- The calls on a bare object are the Rust's wherever nothing is refused: `invoke`, and `is_valid_step` with its wrong Pop.
-- Numbers 9, 3 and 7 have no counterpart there.
use Rattle.std.specs.Prelude.{◌≡◌, Bool, length, Ok}
use Rattle.std.proofs.Math.Path.{refl, sym, ap}
use Rattle.std.proofs.Common.{◌∙◌}
use Rattle.std.proofs.Math.Bool.{true, false}
use Rattle.values.specs.Value.{pick}
use Rattle.values.specs.Sizes.{room}
use Rattle.families.specs.declared.family.Family.{Family}
use Rattle.families.specs.Family.{family_of, op_family}
use Rattle.families.specs.Families.{State, answers, after}
use Rattle.families.specs.Placing.{held_of, held_after, leaves_wrong}
use Rattle.families.specs.Refusals.{op_belongs}
use Rattle.families.specs.Room.{own_op}
use Rattle.families.specs.States.{alike_kind}
use Rattle.families.specs.Bare.{wrong_room}
use Rattle.families.specs.RustObjects.{RefObj, invoke, is_valid_step, ref_obj}
use Rattle.families.specs.RustFamilies.{holding, invoke_same, step_same, object_same}
use Rattle.families.specs.declared.Object.{Object}
use Rattle.families.specs.declared.Op.{Op}
use Rattle.families.specs.declared.Ret.{Ret}
use Rattle.semantics.specs.Calls.{right_by, left_by, invoke_of, stepped, step_of}
use Rattle.semantics.specs.Clear.{InvokeClear, StepClear, step_clear}
use Rattle.semantics.specs.Invoking.{holds, invoke_answers, invoke_leaves, invoke_leaves_by, right_holds}
use Rattle.semantics.specs.Steps.{invoke_of_step, right_own}
use Rattle.semantics.specs.declared.Stepped.{Stepped}

module _ (o : Object) (op : Op) (full : length o.items ≡ room) where
  -- the Rust's object, by what the object holds
  ref_holds : op_belongs o.kind op ≡ Ok tt → ref_obj o ≡ holding (op_family op) (holds o)
  ref_holds own = object_same o.kind o.items ∙ ap (λ (f : Family). holding f (holds o)) (sym ((own_op o.kind op).0 own))

  -- what is left there
  left_family : (s : State) → op_belongs o.kind op ≡ Ok tt → holding (family_of (left_by o op).kind) s ≡ holding (op_family op) s
  unfolding left_by
  left_family s own =
      ap (λ (f : Family). holding f s) (sym (alike_kind o.kind (held_after (held_of o.kind) op)) ∙ sym ((own_op o.kind op).0 own))

  module _ (clear : InvokeClear o.kind op) where
    left_ref : ref_obj (left_by o op) ≡ holding (op_family op) (after (holds o) op)
    left_ref =
        object_same (left_by o op).kind (left_by o op).items
        ∙ left_family (holds (left_by o op)) clear.own
        ∙ ap (holding (op_family op)) (ap holds (sym (invoke_leaves_by o op clear)) ∙ invoke_leaves o op clear full)

    invoked_there : invoke (ref_obj o) op ≡ (answers (holds o) op, holding (op_family op) (after (holds o) op))
    invoked_there = ap (λ (r : RefObj). invoke r op) (ref_holds clear.own) ∙ invoke_same (holds o) op

    -- `invoke` answers and leaves what the Rust's does
    pub invoke_answers_as : (invoke_of o op).answer ≡ Ok (invoke (ref_obj o) op).0
    invoke_answers_as = invoke_answers o op clear full ∙ ap (λ (x : Ret × RefObj). Ok x.0) (sym invoked_there)

    pub invoke_leaves_as : ref_obj (invoke_of o op).object ≡ (invoke (ref_obj o) op).1
    invoke_leaves_as = ap ref_obj (invoke_leaves_by o op clear) ∙ left_ref ∙ ap (λ (x : Ret × RefObj). x.1) (sym invoked_there)

  module _ (ret : Ret) where
    -- what the abstract object is after a step: its return right, or not
    abbrev left_there : Bool → State
    left_there b = pick b (after (holds o) op) (pick (leaves_wrong op ret) (after (holds o) op) (holds o))

    stepped_there : op_belongs o.kind op ≡ Ok tt → is_valid_step (ref_obj o) op ret ≡ (right_by o op ret, holding (op_family op) (left_there (right_by o op ret)))
    stepped_there own =
        ap (λ (r : RefObj). is_valid_step r op ret) (ref_holds own)
        ∙ step_same (holds o) op ret
        ∙ ap (λ (b : Bool). (b, holding (op_family op) (left_there b))) (sym (right_holds o op ret full own))

    module _ (clear : StepClear o.kind op ret) where
      abbrev Agrees : Bool → Stepped → Type 0
      Agrees b x = (x.said ≡ Ok b) × (ref_obj x.object ≡ holding (op_family op) (left_there b))

      step_agrees : Agrees (right_by o op ret) (step_of o op ret)
      unfolding step_of
      step_agrees = rw ((step_clear o.kind op ret).1 clear) (go (right_by o op ret) (leaves_wrong op ret) refl refl)
        where
          go : (b w : Bool) → right_by o op ret ≡ b → leaves_wrong op ret ≡ w
              → Agrees b (pick b (stepped (Ok true) (left_by o op)) (pick w (stepped (Ok false) (left_by o op)) (stepped (Ok false) o)))
          go true w e f = (refl, left_ref (invoke_of_step o op ret clear ((right_own o op ret).0 e)))
          go false true e f = (
            refl,
            rw f (left_ref (record { in_shape = clear.in_shape; own = clear.own; has_room = wrong_room (held_of o.kind) op ret f })),
          )
          go false false e f = (refl, rw f (ref_holds clear.own))

      -- `is_valid_step` says and leaves what the Rust's does

      pub step_says_as : (step_of o op ret).said ≡ Ok (is_valid_step (ref_obj o) op ret).0
      step_says_as = step_agrees.0 ∙ ap (λ (x : Bool × RefObj). Ok x.0) (sym (stepped_there clear.own))

      pub step_leaves_as : ref_obj (step_of o op ret).object ≡ (is_valid_step (ref_obj o) op ret).1
      step_leaves_as = step_agrees.1 ∙ ap (λ (x : Bool × RefObj). x.1) (sym (stepped_there clear.own))
