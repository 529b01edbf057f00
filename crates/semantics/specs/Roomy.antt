-- An object with room for one operation more refuses none of its own, and does with it what the abstract object does.
use Rattle.std.specs.Prelude.{ℕ, suc, ◌≡◌, Bool, ◌↔◌, length, Ok}
use Rattle.std.proofs.Math.Path.{refl, sym}
use Rattle.std.proofs.Common.{ap, ◌∙◌}
use Rattle.std.proofs.Math.Bool.{true, false}
use Rattle.values.specs.Value.{pick}
use Rattle.values.specs.Sizes.{room}
use Rattle.families.specs.Families.{answers, right, after}
use Rattle.families.specs.Placing.{held_of, held_after}
use Rattle.families.specs.Refusals.{op_belongs, room_check, took_room, step_room}
use Rattle.families.specs.PlacingUndone.{leaves_length}
use Rattle.families.specs.Room.{Room, room_shape, room_clear}
use Rattle.families.specs.States.{Alike, alike_kind}
use Rattle.families.specs.Bare.{left_room, right_belongs}
use Rattle.families.specs.declared.Object.{Object}
use Rattle.families.specs.declared.Op.{Op}
use Rattle.families.specs.declared.Ret.{Ret}
use Rattle.semantics.specs.Calls.{right_by, left_by, invoke_of, step_of}
use Rattle.semantics.specs.Clear.{InvokeClear, StepClear}
use Rattle.semantics.specs.Invoking.{holds, invoke_answers, invoke_leaves, invoke_leaves_by, right_holds}
use Rattle.semantics.specs.Steps.{step_right, step_yes_left}

-- room for n more operations
abbrev pub RoomFor : Object → ℕ → Type 0
RoomFor o n = Room o.kind (held_of o.kind) n

module _ (o : Object) (op : Op) (n : ℕ) (full : length o.items ≡ room) (own : op_belongs o.kind op ≡ Ok tt) (roomy : RoomFor o (suc n)) where
  clear : InvokeClear o.kind op
  clear = record {
    in_shape = room_shape o.kind (suc n) roomy;
    own = own;
    has_room = room_clear o.kind (held_of o.kind) op n own roomy;
  }

  -- what is left

  pub left_holds : holds (left_by o op) ≡ after (holds o) op
  left_holds = ap holds (sym (invoke_leaves_by o op clear)) ∙ invoke_leaves o op clear full

  pub left_full : length (left_by o op).items ≡ room
  unfolding left_by
  left_full = leaves_length o.items (held_of o.kind) op ∙ full

  pub left_alike : Alike o.kind (left_by o op).kind
  unfolding left_by
  left_alike = alike_kind o.kind (held_after (held_of o.kind) op)

  pub left_roomy : RoomFor (left_by o op) n
  unfolding left_by
  left_roomy = left_room o.kind op n own roomy

  -- `invoke`

  pub invoke_returns : (invoke_of o op).answer ≡ Ok (answers (holds o) op)
  invoke_returns = invoke_answers o op clear full

  pub invoke_left : (invoke_of o op).object ≡ left_by o op
  invoke_left = invoke_leaves_by o op clear

  -- `is_valid_step`: yes exactly for a right return

  pub step_exactly : (ret : Ret) → (step_of o op ret).said ≡ (Ok true) ↔ right (holds o) op ret ≡ true
  unfolding step_room
  step_exactly ret =
      let h = right_holds o op ret full own in
      (λ y. sym h ∙ ((step_right o op ret).0 y).1, λ e. (step_right o op ret).1 (unrefused (h ∙ e), h ∙ e))
    where
      either : (b : Bool) → pick b (room_check (held_of o.kind) op) (Ok tt) ≡ Ok tt
      either true = clear.has_room
      either false = refl

      unrefused : right_by o op ret ≡ true → StepClear o.kind op ret
      unrefused e = record {
        in_shape = clear.in_shape;
        own = own;
        own_ret = right_belongs o.kind o.items (held_of o.kind) op ret own e;
        has_room = either (took_room ret);
      }

  pub step_left : (ret : Ret) → (step_of o op ret).said ≡ Ok true → (step_of o op ret).object ≡ left_by o op
  step_left ret y = step_yes_left o op ret y
