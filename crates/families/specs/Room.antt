-- Room for more operations: every start has it for as many as a tester holds, and an operation takes one at most.
use Rattle.std.specs.Prelude.{ℕ, suc, ◌+◌, ◌≤◌, ◌≡◌, refl, true, ◌↔◌, Result, Ok, Err, is_ok}
use Rattle.std.proofs.Common.{sym, subst, arith}
use Rattle.std.proofs.lemmas.Grind.{common_steps}
use Rattle.values.specs.Sizes.{room, capacity}
use Rattle.objects.specs.Stack.{depth_check, stack_room, depth_after}
use Rattle.families.specs.Family.{Family, registers, write_onces, stacks, family_of, op_family, ret_family}
use Rattle.families.specs.RefusalsExactly.{op_exactly, ret_exactly, start_exactly}
use Rattle.families.specs.Placing.{held_of, held_after}
use Rattle.values.specs.Checks.{number_of, in_order}
use Rattle.families.specs.Refusals.{op_belongs, ret_belongs, shape_check, start_check, room_check}
use Rattle.objects.specs.Storage.{HasRoom}
use Rattle.families.specs.declared.Kind.{Kind}
use Rattle.families.specs.declared.Kind.TheVariants.{Register, WORegister, Vec}
use Rattle.families.specs.declared.Op.{Op}
use Rattle.families.specs.declared.Op.TheVariants.{Register as ORegister, WORegister as OWORegister, Vec as OVec}
use Rattle.families.specs.declared.Ret.{Ret}
use Rattle.objects.specs.declared.vec.VecOp.{VecOp}
use Rattle.objects.specs.declared.vec.VecOp.TheVariants.{Push, Pop, Len}
use Rattle.values.specs.declared.held.Held.{Held}
use Rattle.values.specs.declared.refusal.Refusal.{Refusal}
use Rattle.values.specs.declared.refusal.Refusal.TheVariants.{OtherFamily, NoRoom, StartTooDeep, OutOfShape}

-- the object's numbers are none of those that say what became of an event
pub not_event : (r : Refusal) → (number_of r ≡ 0 → ⊥) × ((number_of r ≡ 4 → ⊥) × (number_of r ≡ 5 → ⊥))
unfolding number_of
not_event OtherFamily = (λ e. omega arith, (λ e. omega arith, λ e. omega arith))
not_event NoRoom = (λ e. omega arith, (λ e. omega arith, λ e. omega arith))
not_event StartTooDeep = (λ e. omega arith, (λ e. omega arith, λ e. omega arith))
not_event OutOfShape = (λ e. omega arith, (λ e. omega arith, λ e. omega arith))

-- checks, alone and one after the other

pub clear_yes : (c : Result Unit Refusal) → is_ok c ≡ true ↔ c ≡ Ok tt
clear_yes (Ok tt) = (λ e. refl, λ e. refl)
clear_yes (Err r) = (λ e. absurd cc, λ e. absurd cc)

pub both_clear : (a b : Result Unit Refusal) → in_order a b ≡ Ok tt → (a ≡ Ok tt) × (b ≡ Ok tt)
unfolding in_order
both_clear (Ok tt) b h = (refl, h)
both_clear (Err r) b h = absurd cc

-- an operation or a return belongs to an object exactly if it is of its family

pub own_op : (k : Kind) (op : Op) → op_belongs k op ≡ Ok tt ↔ op_family op ≡ family_of k
own_op k op = op_exactly k op (Ok tt)

pub own_ret : (k : Kind) (ret : Ret) → ret_belongs k ret ≡ Ok tt ↔ ret_family ret ≡ family_of k
own_ret k ret = ret_exactly k ret (Ok tt)

-- a stack's checks

pub depth_clear : (d : ℕ) → depth_check d ≡ Ok tt ↔ d ≤ room
unfolding depth_check
depth_clear d = (λ h. grind (arith, common_steps), λ h. grind (arith, common_steps))

-- An object, as its two words tell, has room for n more operations.
unfoldable pub RoomIn : Family → Held → ℕ → Type 0
RoomIn registers h n = Unit {0}
RoomIn write_onces h n = Unit {0}
RoomIn stacks h n = h.height + n ≤ room

-- The same of an object of the family of k.
abbrev pub Room : Kind → Held → ℕ → Type 0
Room k h n = RoomIn (family_of k) h n

-- for fewer there is room too
pub room_fewer : (k : Kind) (h : Held) (n m : ℕ) → m ≤ n → Room k h n → Room k h m
unfolding RoomIn
room_fewer k h n m l r = go (family_of k) r
  where
    go : (f : Family) → RoomIn f h n → RoomIn f h m
    go registers r = tt
    go write_onces r = tt
    go stacks r = omega arith

-- A start has room for as many operations as a tester holds.
pub start_room_lem : (k : Kind) → start_check k ≡ Ok tt → Room k (held_of k) capacity
unfolding family_of held_of RoomIn
start_room_lem (Register v) c = tt
start_room_lem (WORegister m) c = tt
start_room_lem (Vec d) c = omega (arith, (start_exactly (Vec d) (Ok tt)).0 c)

-- An object with room is in shape.
pub room_shape : (k : Kind) (n : ℕ) → Room k (held_of k) n → shape_check k ≡ Ok tt
unfolding shape_check family_of held_of RoomIn
room_shape (Register v) n r = refl
room_shape (WORegister m) n r = refl
room_shape (Vec d) n r = (depth_clear d).1 (omega arith)

-- an operation of the family f on what two words hold

depth_grows : (d : ℕ) (p : VecOp) → depth_after d p ≤ d + 1
unfolding depth_after
depth_grows d (Push v) = grind (arith, common_steps)
depth_grows d Pop = grind (arith, common_steps)
depth_grows d Len = omega arith

-- An operation takes room for one at most.
pub step_room : (k : Kind) (h : Held) (op : Op) (n : ℕ) → op_belongs k op ≡ Ok tt → Room k h (suc n) → Room k (held_after h op) n
unfolding RoomIn op_family held_after
step_room k h op n c r = go (family_of k) op ((own_op k op).0 c) r
  where
    go : (f : Family) (op : Op) → op_family op ≡ f → RoomIn f h (suc n) → RoomIn f (held_after h op) n
    go f (ORegister p) e r = subst (λ (g : Family). RoomIn g (held_after h (ORegister p)) n) e tt
    go f (OWORegister p) e r = subst (λ (g : Family). RoomIn g (held_after h (OWORegister p)) n) e tt
    go f (OVec p) e r =
        let l : RoomIn stacks h (suc n) = subst (λ (g : Family). RoomIn g h (suc n)) (sym e) r in
        subst (λ (g : Family). RoomIn g (held_after h (OVec p)) n) e (omega (arith, depth_grows h.height p))

-- the operation has its place
abbrev pub Fits : Held → Op → Type 0
Fits h (ORegister p) = Unit {0}
Fits h (OWORegister p) = Unit {0}
Fits h (OVec p) = HasRoom h.height p

stack_fits : (d : ℕ) (p : VecOp) → d + 1 ≤ room → HasRoom d p
stack_fits d (Push v) l = omega arith
stack_fits d Pop l = omega arith
stack_fits d Len l = tt

pub room_fits : (k : Kind) (h : Held) (op : Op) (n : ℕ) → op_belongs k op ≡ Ok tt → Room k h (suc n) → Fits h op
unfolding RoomIn op_family
room_fits k h op n c r = go (family_of k) op ((own_op k op).0 c) r
  where
    go : (f : Family) (op : Op) → op_family op ≡ f → RoomIn f h (suc n) → Fits h op
    go f (ORegister p) e r = tt
    go f (OWORegister p) e r = tt
    go f (OVec p) e r = let l : RoomIn stacks h (suc n) = subst (λ (g : Family). RoomIn g h (suc n)) (sym e) r in stack_fits h.height p (omega arith)

-- and is not refused for want of room

stack_room_lem : (d : ℕ) (p : VecOp) → d + 1 ≤ room → stack_room d p ≡ Ok tt
unfolding stack_room
stack_room_lem d p l = grind (arith, common_steps)

pub room_clear : (k : Kind) (h : Held) (op : Op) (n : ℕ) → op_belongs k op ≡ Ok tt → Room k h (suc n) → room_check h op ≡ Ok tt
unfolding RoomIn op_family room_check
room_clear k h op n c r = go (family_of k) op ((own_op k op).0 c) r
  where
    go : (f : Family) (op : Op) → op_family op ≡ f → RoomIn f h (suc n) → room_check h op ≡ Ok tt
    go f (ORegister p) e r = refl
    go f (OWORegister p) e r = refl
    go f (OVec p) e r = let l : RoomIn stacks h (suc n) = subst (λ (g : Family). RoomIn g h (suc n)) (sym e) r in stack_room_lem h.height p (omega arith)
