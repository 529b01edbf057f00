-- When a bare step is not refused.
use Rattle.std.specs.Prelude.{◌≡◌, ◌↔◌, Ok}
use Rattle.families.specs.Placing.{held_of}
use Rattle.values.specs.Checks.{in_order}
use Rattle.families.specs.Refusals.{op_belongs, ret_belongs, shape_check, room_check, step_room}
use Rattle.families.specs.Room.{both_clear}
use Rattle.families.specs.declared.Kind.{Kind}
use Rattle.families.specs.declared.Op.{Op}
use Rattle.families.specs.declared.Ret.{Ret}
use Rattle.semantics.specs.Calls.{invoke_check, step_check}

-- an object is in shape
abbrev pub InShape : Kind → Type 0
InShape k = shape_check k ≡ Ok tt

pub record InvokeClear (k : Kind) (op : Op) : Type 0 where
  pub in_shape : InShape k
  pub own : op_belongs k op ≡ Ok tt
  pub has_room : room_check (held_of k) op ≡ Ok tt

pub record StepClear (k : Kind) (op : Op) (ret : Ret) : Type 0 where
  pub in_shape : InShape k
  pub own : op_belongs k op ≡ Ok tt
  pub own_ret : ret_belongs k ret ≡ Ok tt
  pub has_room : step_room (held_of k) op ret ≡ Ok tt

pub invoke_clear : (k : Kind) (op : Op) → invoke_check k op ≡ Ok tt ↔ InvokeClear k op
unfolding invoke_check in_order
invoke_clear k op = (λ e. split e, λ c. rw (c.in_shape, c.own) c.has_room)
  where
    split : invoke_check k op ≡ Ok tt → InvokeClear k op
    split e =
        let a = both_clear (shape_check k) _ e in
        let b = both_clear (op_belongs k op) (room_check (held_of k) op) a.1 in
        record { in_shape = a.0; own = b.0; has_room = b.1 }

pub step_clear : (k : Kind) (op : Op) (ret : Ret) → step_check k op ret ≡ Ok tt ↔ StepClear k op ret
unfolding step_check in_order
step_clear k op ret = (λ e. split e, λ c. rw (c.in_shape, c.own, c.own_ret) c.has_room)
  where
    split : step_check k op ret ≡ Ok tt → StepClear k op ret
    split e =
        let a = both_clear (shape_check k) _ e in
        let b = both_clear (op_belongs k op) _ a.1 in
        let c = both_clear (ret_belongs k ret) (step_room (held_of k) op ret) b.1 in
        record { in_shape = a.0; own = b.0; own_ret = c.0; has_room = c.1 }
