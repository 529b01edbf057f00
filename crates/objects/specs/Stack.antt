-- The stack: Push(v) gives PushOk; Pop gives PopOk(top or nothing) and sets the place that it frees to zero;
-- Len gives LenOk(n). First as a list of values, then in storage with a depth beside it.
use Rattle.std.specs.Prelude.{ℕ, zero, suc, ◌+◌, ◌-◌, Bool, true, false, List, [], ◌∷◌, length, get_or, set, ℤ, pos, ltb, leb, eqb, Option, Some, None, Result, Ok, Err}
use Rattle.values.specs.Sizes.{room, start_room}
use Rattle.values.specs.Held.{held}
use Rattle.values.specs.Value.{pick, zigzag, signed}
use Rattle.values.specs.Coded.{coded, maybe_coded, maybe_from}
use Rattle.values.specs.declared.coded.Coded.{Coded}
use Rattle.values.specs.declared.coded.Form.{Form}
use Rattle.values.specs.declared.coded.Form.TheVariants.{Unknown, Bare, Number, Flagged}
use Rattle.values.specs.declared.refusal.Refusal.TheVariants.{NoRoom, StartTooDeep, OutOfShape}
use Rattle.values.specs.declared.held.Held.{Held}
use Rattle.values.specs.declared.held.Acted.{Acted}
use Rattle.objects.specs.declared.vec.VecOp.{VecOp}
use Rattle.objects.specs.declared.vec.VecOp.TheVariants.{Push, Pop, Len}
use Rattle.objects.specs.declared.vec.VecRet.{VecRet}
use Rattle.objects.specs.declared.vec.VecRet.TheVariants.{PushOk, PopOk, LenOk}
use Rattle.values.specs.declared.refusal.Refusal.{Refusal}

-- the values, the top first

abbrev pub first : List ℤ → Option ℤ
first [] = None
first (v ∷ vs) = Some v

abbrev pub rest : List ℤ → List ℤ
rest [] = []
rest (v ∷ vs) = vs

unfoldable pub stack_answer : List ℤ → VecOp → VecRet
stack_answer vs (Push v) = PushOk
stack_answer vs Pop = PopOk (first vs)
stack_answer vs Len = LenOk (length vs)

unfoldable pub stack_after : List ℤ → VecOp → List ℤ
stack_after vs (Push v) = v ∷ vs
stack_after vs Pop = rest vs
stack_after vs Len = vs

-- in numbers, from 0 in the order above

unfoldable pub stack_op_coded : VecOp → Coded
stack_op_coded (Push v) = coded 0 1 (zigzag v)
stack_op_coded Pop = coded 1 0 0
stack_op_coded Len = coded 2 0 0

unfoldable pub stack_op_form : ℕ → Form
stack_op_form n = pick (eqb n 0) Number (pick (eqb n 1) Bare (pick (eqb n 2) Bare Unknown))

unfoldable pub stack_op_from : Coded → VecOp
stack_op_from c = pick (eqb c.number 0) (Push (signed c.word)) (pick (eqb c.number 1) Pop Len)

unfoldable pub stack_ret_coded : VecRet → Coded
stack_ret_coded PushOk = coded 0 0 0
stack_ret_coded (PopOk m) = maybe_coded 1 m
stack_ret_coded (LenOk n) = coded 2 1 n

unfoldable pub stack_ret_form : ℕ → Form
stack_ret_form n = pick (eqb n 0) Bare (pick (eqb n 1) Flagged (pick (eqb n 2) Number Unknown))

unfoldable pub stack_ret_from : Coded → VecRet
stack_ret_from c = pick (eqb c.number 0) PushOk (pick (eqb c.number 1) (PopOk (maybe_from c)) (LenOk c.word))

-- a Push, and a return that says so; a Pop, and a return of one

unfoldable pub pushes : VecOp → Bool
pushes (Push v) = true
pushes Pop = false
pushes Len = false

unfoldable pub pushed : VecRet → Bool
pushed PushOk = true
pushed (PopOk m) = false
pushed (LenOk n) = false

unfoldable pub pops : VecOp → Bool
pops (Push v) = false
pops Pop = true
pops Len = false

unfoldable pub popped : VecRet → Bool
popped PushOk = false
popped (PopOk m) = true
popped (LenOk n) = false

-- refusals: a depth over 96 is out of shape, an initial one over 32 too deep, and a Push on a stack of 96 has no room

unfoldable pub depth_check : ℕ → Result Unit Refusal
depth_check d = pick (ltb room d) (Err OutOfShape) (Ok tt)

unfoldable pub low_check : ℕ → Result Unit Refusal
low_check d = pick (ltb start_room d) (Err StartTooDeep) (Ok tt)

unfoldable pub stack_room : ℕ → VecOp → Result Unit Refusal
stack_room d op = pick (pushes op) (pick (eqb d room) (Err NoRoom) (Ok tt)) (Ok tt)

-- the storage

-- the values held: the first d items, the last of them first
unfoldable pub held_values : List ℤ → ℕ → List ℤ
held_values items zero = []
held_values items (suc d) = get_or items d (pos 0) ∷ held_values items d

-- what stands at a place of the storage; past its end 0
unfoldable pub item_at : List ℤ → ℕ → ℤ
item_at items i = pick (ltb i room) (get_or items i (pos 0)) (pos 0)

unfoldable pub top_of : List ℤ → ℕ → Option ℤ
top_of items d = pick (eqb d 0) None (Some (item_at items (d - 1)))

unfoldable pub storage_answer : List ℤ → ℕ → VecOp → VecRet
storage_answer items d (Push v) = PushOk
storage_answer items d Pop = PopOk (top_of items d)
storage_answer items d Len = LenOk d

-- a pop has a place to free where there is a value, within the room
unfoldable pub frees : ℕ → Bool
frees d = pick (eqb d 0) false (leb d room)

unfoldable pub depth_after : ℕ → VecOp → ℕ
depth_after d (Push v) = pick (ltb d room) (d + 1) d
depth_after d Pop = pick (frees d) (d - 1) d
depth_after d Len = d

unfoldable pub items_after : List ℤ → ℕ → VecOp → List ℤ
items_after items d (Push v) = pick (ltb d room) (set items d v) items
items_after items d Pop = pick (frees d) (set items (d - 1) (pos 0)) items
items_after items d Len = items

-- the place that an operation changes, and what it writes there; `room`: none

unfoldable pub stack_changes : ℕ → VecOp → ℕ
stack_changes d (Push v) = pick (ltb d room) d room
stack_changes d Pop = pick (frees d) (d - 1) room
stack_changes d Len = room

abbrev pub stack_written : VecOp → ℤ
stack_written (Push v) = v
stack_written Pop = pos 0
stack_written Len = pos 0

-- what the operation leaves in the two words, and how to undo it: the place with what it had
unfoldable pub stack_acted : List ℤ → Held → VecOp → Acted
stack_acted items h op =
    record { held = held h.value (depth_after h.height op); undo = record { cell = stack_changes h.height op; was = item_at items (stack_changes h.height op) } }
