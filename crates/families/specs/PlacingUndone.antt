-- Undoing after placing gives back what was there: an operation changes one place of the storage at most.
use Rattle.std.specs.Prelude.{ℕ, ◌-◌, ◌<◌, ◌≡◌, refl, Bool, true, false, List, length, get_or, set, ℤ, pos, ltb}
use Rattle.std.proofs.Common.{ap, ◌∙◌, length-set, set-set, arith}
use Rattle.std.proofs.lemmas.List.{set-get_or}
use Rattle.std.proofs.lemmas.Grind.{common_steps}
use Rattle.values.specs.Value.{pick}
use Rattle.values.specs.Sizes.{room}
use Rattle.objects.specs.Stack.{item_at, frees, items_after, stack_changes, stack_written}
use Rattle.families.specs.Placing.{leaves_of, changes, acted_of, back_of}
use Rattle.families.specs.declared.Op.{Op}
use Rattle.families.specs.declared.Op.TheVariants.{Register as ORegister, WORegister as OWORegister, Vec as OVec}
use Rattle.values.specs.declared.held.Held.{Held}
use Rattle.objects.specs.declared.vec.VecOp.{VecOp}
use Rattle.objects.specs.declared.vec.VecOp.TheVariants.{Push, Pop, Len}

-- what an operation writes at the place that it changes
abbrev written : Op → ℤ
written (ORegister p) = pos 0
written (OWORegister p) = pos 0
written (OVec p) = stack_written p

changed : List ℤ → ℕ → ℤ → List ℤ
changed items i v = pick (ltb i room) (set items i v) items

freed : (d : ℕ) → frees d ≡ true → d - 1 < room
unfolding frees
freed d h = grind (arith, common_steps)

stack_one : (items : List ℤ) (d : ℕ) (p : VecOp) → items_after items d p ≡ changed items (stack_changes d p) (stack_written p)
unfolding items_after stack_changes changed
stack_one items d (Push v) = grind (arith, common_steps)
stack_one items d Pop = grind (arith, common_steps, freed)
stack_one items d Len = refl

leaves_one : (items : List ℤ) (h : Held) (op : Op) → leaves_of items h op ≡ changed items (changes h op) (written op)
unfolding leaves_of changes changed
leaves_one items h (ORegister p) = refl
leaves_one items h (OWORegister p) = refl
leaves_one items h (OVec p) = stack_one items h.height p

back_one : (items : List ℤ) (i : ℕ) (v : ℤ) → back_of (changed items i v) (record { cell = i; was = item_at items i }) ≡ items
unfolding back_of changed item_at
back_one items i v = go (ltb i room)
  where
    go : (b : Bool) → pick b (set (pick b (set items i v) items) i (pick b (get_or items i (pos 0)) (pos 0))) (pick b (set items i v) items) ≡ items
    go true = set-set items i v (get_or items i (pos 0)) ∙ set-get_or items i (pos 0)
    go false = refl

-- the items are as they were; what stands beside them the caller has kept
pub back_acted : (items : List ℤ) (h : Held) (op : Op) → back_of (leaves_of items h op) (acted_of items h op).undo ≡ items
unfolding acted_of
back_acted items h op = rw (leaves_one items h op) (back_one items (changes h op) (written op))

-- no item more or less
pub leaves_length : (items : List ℤ) (h : Held) (op : Op) → length (leaves_of items h op) ≡ length items
unfolding changed
leaves_length items h op = ap length (leaves_one items h op) ∙ grind (arith, common_steps, length-set)
