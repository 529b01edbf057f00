-- `invoke` does what the abstract object does, with the returns that are right there, and leaves an object in shape.
use Rattle.std.specs.Prelude.{◌≡◌, length, Ok}
use Rattle.std.proofs.Math.Path.{ap}
use Rattle.std.proofs.Common.{◌∙◌}
use Rattle.values.specs.Sizes.{room}
use Rattle.families.specs.Families.{State, answers, right, after}
use Rattle.families.specs.Placing.{held_of}
use Rattle.families.specs.Refusals.{op_belongs}
use Rattle.families.specs.States.{state_of, kind_held, placing_answers, placing_right, placing_leaves}
use Rattle.families.specs.Bare.{clear_fits, kept_shape}
use Rattle.families.specs.declared.Kind.{Kind}
use Rattle.families.specs.declared.Object.{Object}
use Rattle.families.specs.declared.Op.{Op}
use Rattle.families.specs.declared.Ret.{Ret}
use Rattle.semantics.specs.Calls.{answer_by, right_by, left_by, invoke_of}
use Rattle.semantics.specs.Clear.{InShape, InvokeClear, invoke_clear}

-- what an object holds
abbrev pub holds : Object → State
holds o = state_of o.kind o.items

-- the object of the call, where it is not refused
module _ (o : Object) (op : Op) (clear : InvokeClear o.kind op) where
  pub invoke_answers_by : (invoke_of o op).answer ≡ Ok (answer_by o op)
  unfolding invoke_of
  invoke_answers_by = rw ((invoke_clear o.kind op).1 clear)

  pub invoke_leaves_by : (invoke_of o op).object ≡ left_by o op
  unfolding invoke_of
  invoke_leaves_by = rw ((invoke_clear o.kind op).1 clear)

  module _ (full : length o.items ≡ room) where
    -- what it answers
    pub invoke_answers : (invoke_of o op).answer ≡ Ok (answers (holds o) op)
    unfolding answer_by
    invoke_answers =
        invoke_answers_by ∙ ap Ok (placing_answers o.items full o.kind op clear.own (held_of o.kind) ∙ rw (kind_held o.kind))

    -- and what it leaves
    pub invoke_leaves : holds (invoke_of o op).object ≡ after (holds o) op
    unfolding left_by
    invoke_leaves =
        ap holds invoke_leaves_by
        ∙ placing_leaves o.items full o.kind op clear.own (held_of o.kind) (clear_fits o.kind op clear.in_shape clear.own clear.has_room)
        ∙ rw (kind_held o.kind)

-- which returns are right
pub right_holds : (o : Object) (op : Op) (ret : Ret) → length o.items ≡ room → op_belongs o.kind op ≡ Ok tt → right_by o op ret ≡ right (holds o) op ret
right_holds o op ret full own =
    placing_right o.items full o.kind op own (held_of o.kind) ret
    ∙ ap (λ (k : Kind). right (state_of k o.items) op ret) (kind_held o.kind)

-- calls keep objects in shape
pub left_in_shape : (o : Object) (op : Op) → InShape o.kind → op_belongs o.kind op ≡ Ok tt → InShape (left_by o op).kind
unfolding left_by
left_in_shape o op h b = kept_shape o.kind op h b
