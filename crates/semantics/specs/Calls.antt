-- What each call on a bare object hands back.
use Rattle.std.specs.Prelude.{Bool, true, false, Result, Ok, Err}
use Rattle.values.specs.Value.{pick}
use Rattle.families.specs.Objects.{object}
use Rattle.families.specs.Placing.{held_of, kind_of, answer_of, right_of, held_after, leaves_of, leaves_wrong}
use Rattle.values.specs.Checks.{in_order}
use Rattle.families.specs.Refusals.{op_belongs, ret_belongs, shape_check, is_full, room_check, step_room}
use Rattle.families.specs.declared.Kind.{Kind}
use Rattle.families.specs.declared.Object.{Object}
use Rattle.families.specs.declared.Op.{Op}
use Rattle.families.specs.declared.Ret.{Ret}
use Rattle.values.specs.declared.refusal.Refusal.{Refusal}
use Rattle.values.specs.declared.refusal.Refusal.TheVariants.{OtherFamily, NoRoom, StartTooDeep, OutOfShape}
use Rattle.semantics.specs.declared.Invoked.{Invoked}
use Rattle.semantics.specs.declared.Stepped.{Stepped}

-- the refusals of a bare step, in their order: 9, 3, 7

unfoldable pub invoke_check : Kind → Op → Result Unit Refusal
invoke_check k op = in_order (shape_check k) (in_order (op_belongs k op) (room_check (held_of k) op))

unfoldable pub step_check : Kind → Op → Ret → Result Unit Refusal
step_check k op ret =
    in_order (shape_check k) (in_order (op_belongs k op) (in_order (ret_belongs k ret) (step_room (held_of k) op ret)))

-- what an object answers to an operation of its family, whether a return is right, and what is left

unfoldable pub answer_by : Object → Op → Ret
answer_by o op = answer_of o.items (held_of o.kind) op

abbrev pub right_by : Object → Op → Ret → Bool
right_by o op ret = right_of o.items (held_of o.kind) op ret

unfoldable pub left_by : Object → Op → Object
left_by o op = object (kind_of o.kind (held_after (held_of o.kind) op)) (leaves_of o.items (held_of o.kind) op)

-- `invoke`: the return and what is left; or the refusal, and the object as it came

abbrev pub invoked : Result Ret Refusal → Object → Invoked
invoked a o = record { answer = a; object = o }

abbrev pub invoke_by : Result Unit Refusal → Object → Op → Invoked
invoke_by (Err r) o op = invoked (Err r) o
invoke_by (Ok tt) o op = invoked (Ok (answer_by o op)) (left_by o op)

unfoldable pub invoke_of : Object → Op → Invoked
invoke_of o op = invoke_by (invoke_check o.kind op) o op

-- `is_valid_step`: yes exactly for a right return, and then the object is what `invoke` leaves; after a no it is as it
-- came, but for a Pop with a PopOk that is wrong, which still pops

abbrev pub stepped : Result Bool Refusal → Object → Stepped
stepped s o = record { said = s; object = o }

abbrev pub step_by : Result Unit Refusal → Object → Op → Ret → Stepped
step_by (Err r) o op ret = stepped (Err r) o
step_by (Ok tt) o op ret =
    pick (right_by o op ret) (stepped (Ok true) (left_by o op)) (pick (leaves_wrong op ret) (stepped (Ok false) (left_by o op)) (stepped (Ok false) o))

unfoldable pub step_of : Object → Op → Ret → Stepped
step_of o op ret = step_by (step_check o.kind op ret) o op ret

-- `is_valid_history`: the answer for no steps, and the answer for one step more: the first no or refusal stays

abbrev pub begun_by : Result Unit Refusal → Object → Stepped
begun_by (Err r) o = stepped (Err r) o
begun_by (Ok tt) o = stepped (Ok true) o

unfoldable pub begun_of : Object → Stepped
begun_of o = begun_by (shape_check o.kind) o

-- whether calls could have made a record that says this of its object: 9 where the object is out of shape, or where no step
-- refuses it so; else what is said is kept

unfoldable pub drawn_check : Kind → Refusal → Result Unit Refusal
drawn_check k OtherFamily = Ok tt
drawn_check k NoRoom = pick (is_full k) (Ok tt) (Err OutOfShape)
drawn_check k StartTooDeep = Err OutOfShape
drawn_check k OutOfShape = Err OutOfShape

unfoldable pub said_check : Kind → Result Bool Refusal → Result Unit Refusal
said_check k (Ok b) = shape_check k
said_check k (Err r) = in_order (shape_check k) (drawn_check k r)

abbrev pub onward_by : Result Bool Refusal → Stepped → Op → Ret → Stepped
onward_by (Ok true) s op ret = step_of s.object op ret
onward_by (Ok false) s op ret = s
onward_by (Err r) s op ret = s

abbrev pub then_by : Result Unit Refusal → Stepped → Op → Ret → Stepped
then_by (Err r) s op ret = stepped (Err r) s.object
then_by (Ok tt) s op ret = onward_by s.said s op ret

unfoldable pub then_of : Stepped → Op → Ret → Stepped
then_of s op ret = then_by (said_check s.object.kind s.said) s op ret
