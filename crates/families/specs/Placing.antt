-- Placing an operation and undoing it: what an object holds, in two words and a stack's items.
use Rattle.std.specs.Prelude.{ℕ, Bool, true, false, List, set, ℤ, pos, ltb, eqb, Option, Some, None}
use Rattle.values.specs.Value.{pick}
use Rattle.values.specs.Held.{held}
use Rattle.objects.specs.Register.{register_answer, register_after}
use Rattle.objects.specs.WriteOnce.{once_answer, once_after}
use Rattle.values.specs.Sizes.{room}
use Rattle.objects.specs.Stack.{item_at, storage_answer, depth_after, items_after, stack_changes, pops, popped}
use Rattle.families.specs.Families.{same_ret}
use Rattle.families.specs.declared.Kind.{Kind}
use Rattle.families.specs.declared.Kind.TheVariants.{Register, WORegister, Vec}
use Rattle.families.specs.declared.Op.{Op}
use Rattle.families.specs.declared.Op.TheVariants.{Register as ORegister, WORegister as OWORegister, Vec as OVec}
use Rattle.families.specs.declared.Ret.{Ret}
use Rattle.families.specs.declared.Ret.TheVariants.{Register as RRegister, WORegister as RWORegister, Vec as RVec}
use Rattle.values.specs.declared.held.Held.{Held}
use Rattle.values.specs.declared.held.Undo.{Undo}
use Rattle.values.specs.declared.held.Acted.{Acted}

-- a write-once register holds nothing at height 0
unfoldable pub once_of : Held → Option ℤ
once_of h = pick (eqb h.height 0) None (Some h.value)

unfoldable pub held_once : Option ℤ → Held
held_once None = held (pos 0) 0
held_once (Some v) = held v 1

unfoldable pub held_of : Kind → Held
held_of (Register v) = held v 0
held_of (WORegister m) = held_once m
held_of (Vec d) = held (pos 0) d

-- and back, for an object of the same family
unfoldable pub kind_of : Kind → Held → Kind
kind_of (Register v) h = Register h.value
kind_of (WORegister m) h = WORegister (once_of h)
kind_of (Vec d) h = Vec h.height

-- what the object answers, and whether a return is right

unfoldable pub answer_of : List ℤ → Held → Op → Ret
answer_of items h (ORegister p) = RRegister (register_answer h.value p)
answer_of items h (OWORegister p) = RWORegister (once_answer (once_of h) p)
answer_of items h (OVec p) = RVec (storage_answer items h.height p)

unfoldable pub right_of : List ℤ → Held → Op → Ret → Bool
right_of items h (ORegister p) ret = same_ret (answer_of items h (ORegister p)) ret
right_of items h (OWORegister p) ret = same_ret (answer_of items h (OWORegister p)) ret
right_of items h (OVec p) ret = same_ret (answer_of items h (OVec p)) ret

-- an operation in flight may be placed anywhere, with the return that the object gives; one that has returned,
-- where its return is right

unfoldable pub fits_of : List ℤ → Held → Op → Option Ret → Bool
fits_of items h op None = true
fits_of items h op (Some ret) = right_of items h op ret

unfoldable pub given_of : List ℤ → Held → Op → Option Ret → Ret
given_of items h op None = answer_of items h op
given_of items h op (Some ret) = ret

-- what it leaves, and how to undo it

unfoldable pub held_after : Held → Op → Held
held_after h (ORegister p) = held (register_after h.value p) h.height
held_after h (OWORegister p) = held_once (once_after (once_of h) p)
held_after h (OVec p) = held h.value (depth_after h.height p)

unfoldable pub leaves_of : List ℤ → Held → Op → List ℤ
leaves_of items h (ORegister p) = items
leaves_of items h (OWORegister p) = items
leaves_of items h (OVec p) = items_after items h.height p

-- the place that an operation changes; `room`: none
unfoldable pub changes : Held → Op → ℕ
changes h (ORegister p) = room
changes h (OWORegister p) = room
changes h (OVec p) = stack_changes h.height p

unfoldable pub acted_of : List ℤ → Held → Op → Acted
acted_of items h op = record { held = held_after h op; undo = record { cell = changes h op; was = item_at items (changes h op) } }

unfoldable pub back_of : List ℤ → Undo → List ℤ
back_of items u = pick (ltb u.cell room) (set items u.cell u.was) items

-- a return after which an operation leaves what it would, though the return is wrong: a PopOk of a Pop, and no other

unfoldable pub takes : Op → Bool
takes (ORegister p) = false
takes (OWORegister p) = false
takes (OVec p) = pops p

unfoldable pub taken : Ret → Bool
taken (RRegister q) = false
taken (RWORegister q) = false
taken (RVec q) = popped q

unfoldable pub leaves_wrong : Op → Ret → Bool
leaves_wrong op ret = pick (takes op) (taken ret) false
