-- What a bare step asks of the families: an operation that is not refused has its place, leaves an object in shape, and its own answer is not refused.
use Rattle.std.specs.Prelude.{ℕ, suc, ◌+◌, ◌≤◌, ◌≡◌, refl, Bool, true, false, List, ◌↔◌, ℤ, Option, Ok}
use Rattle.std.proofs.Common.{sym, ap, ◌∙◌, subst, arith}
use Rattle.std.proofs.lemmas.Grind.{common_steps}
use Rattle.values.specs.Value.{pick}
use Rattle.values.specs.Sizes.{room}
use Rattle.objects.specs.Stack.{pushes, pushed, pops, popped, stack_room, storage_answer, depth_after}
use Rattle.families.specs.Family.{Family, stacks, family_of, op_family, ret_family}
use Rattle.families.specs.Families.{same_ret}
use Rattle.families.specs.Same.{returns}
use Rattle.families.specs.Placing.{held_of, kind_of, held_after, answer_of, right_of, takes, taken, leaves_wrong}
use Rattle.families.specs.Refusals.{op_belongs, ret_belongs, shape_check, room_check, took_room}
use Rattle.objects.specs.Storage.{HasRoom}
use Rattle.families.specs.Room.{own_op, own_ret, depth_clear, RoomIn, Room, step_room, Fits}
use Rattle.families.specs.declared.Kind.{Kind}
use Rattle.families.specs.declared.Kind.TheVariants.{Register, WORegister, Vec}
use Rattle.families.specs.declared.Op.{Op}
use Rattle.families.specs.declared.Op.TheVariants.{Register as ORegister, WORegister as OWORegister, Vec as OVec}
use Rattle.families.specs.declared.Ret.{Ret}
use Rattle.families.specs.declared.Ret.TheVariants.{Register as RRegister, WORegister as RWORegister, Vec as RVec}
use Rattle.objects.specs.declared.vec.VecOp.{VecOp}
use Rattle.objects.specs.declared.vec.VecOp.TheVariants.{Push, Pop, Len}
use Rattle.objects.specs.declared.vec.VecRet.{VecRet}
use Rattle.objects.specs.declared.vec.VecRet.TheVariants.{PushOk, PopOk, LenOk}
use Rattle.values.specs.declared.held.Held.{Held}

-- in shape is room for no operation more

pub shape_room : (k : Kind) → shape_check k ≡ Ok tt → Room k (held_of k) 0
unfolding shape_check family_of held_of RoomIn
shape_room (Register v) c = tt
shape_room (WORegister m) c = tt
shape_room (Vec d) c = omega (arith, (depth_clear d).0 c)

kind_shape : (k : Kind) (h : Held) → Room k h 0 → shape_check (kind_of k h) ≡ Ok tt
unfolding shape_check family_of kind_of RoomIn
kind_shape (Register v) h r = refl
kind_shape (WORegister m) h r = refl
kind_shape (Vec d) h r = (depth_clear h.height).1 (omega arith)

-- an operation that is not refused has its place

stack_place : (d : ℕ) (p : VecOp) → d ≤ room → stack_room d p ≡ Ok tt → HasRoom d p
unfolding stack_room pushes
stack_place d (Push v) l c = grind (arith, common_steps)
stack_place d Pop l c = l
stack_place d Len l c = tt

pub clear_fits : (k : Kind) (op : Op) → shape_check k ≡ Ok tt → op_belongs k op ≡ Ok tt → room_check (held_of k) op ≡ Ok tt → Fits (held_of k) op
unfolding op_family room_check RoomIn
clear_fits k op s b c = go op ((own_op k op).0 b) c
  where
    go : (op : Op) → op_family op ≡ family_of k → room_check (held_of k) op ≡ Ok tt → Fits (held_of k) op
    go (ORegister p) e c = tt
    go (OWORegister p) e c = tt
    go (OVec p) e c =
        let r : RoomIn stacks (held_of k) 0 = subst (λ (f : Family). RoomIn f (held_of k) 0) (sym e) (shape_room k s) in
        stack_place (held_of k).height p (omega arith) c

-- and leaves the object in shape

depth_kept : (d : ℕ) (p : VecOp) → d + 0 ≤ room → depth_after d p + 0 ≤ room
unfolding depth_after
depth_kept d (Push v) h = grind (arith, common_steps)
depth_kept d Pop h = grind (arith, common_steps)
depth_kept d Len h = h

pub kept_shape : (k : Kind) (op : Op) → shape_check k ≡ Ok tt → op_belongs k op ≡ Ok tt → shape_check (kind_of k (held_after (held_of k) op)) ≡ Ok tt
unfolding op_family held_after RoomIn
kept_shape k op s b = kind_shape k (held_after (held_of k) op) (go (family_of k) op ((own_op k op).0 b) (shape_room k s))
  where
    go : (f : Family) (op : Op) → op_family op ≡ f → RoomIn f (held_of k) 0 → RoomIn f (held_after (held_of k) op) 0
    go f (ORegister p) e r = subst (λ (g : Family). RoomIn g (held_after (held_of k) (ORegister p)) 0) e tt
    go f (OWORegister p) e r = subst (λ (g : Family). RoomIn g (held_after (held_of k) (OWORegister p)) 0) e tt
    go f (OVec p) e r =
        let l : RoomIn stacks (held_of k) 0 = subst (λ (g : Family). RoomIn g (held_of k) 0) (sym e) r in
        subst (λ (g : Family). RoomIn g (held_after (held_of k) (OVec p)) 0) e (depth_kept (held_of k).height p l)

-- what an object answers is of the operation's family, and says that room was taken where it was

answer_family : (items : List ℤ) (h : Held) (op : Op) → ret_family (answer_of items h op) ≡ op_family op
unfolding answer_of ret_family op_family
answer_family items h (ORegister p) = refl
answer_family items h (OWORegister p) = refl
answer_family items h (OVec p) = refl

pub answer_belongs : (k : Kind) (items : List ℤ) (h : Held) (op : Op) → op_belongs k op ≡ Ok tt → ret_belongs k (answer_of items h op) ≡ Ok tt
answer_belongs k items h op b = (own_ret k (answer_of items h op)).1 (answer_family items h op ∙ (own_op k op).0 b)

stack_untaken : (items : List ℤ) (d : ℕ) (p : VecOp) → pushed (storage_answer items d p) ≡ false → stack_room d p ≡ Ok tt
unfolding pushed storage_answer stack_room pushes
stack_untaken items d (Push v) h = absurd cc
stack_untaken items d Pop h = refl
stack_untaken items d Len h = refl

pub answer_untaken : (items : List ℤ) (h : Held) (op : Op) → took_room (answer_of items h op) ≡ false → room_check h op ≡ Ok tt
unfolding took_room answer_of room_check
answer_untaken items h (ORegister p) e = refl
answer_untaken items h (OWORegister p) e = refl
answer_untaken items h (OVec p) e = stack_untaken items h.height p e

-- an operation that is not refused leaves room for one less

kind_room : (k : Kind) (h : Held) (n : ℕ) → Room k h n → Room (kind_of k h) (held_of (kind_of k h)) n
unfolding family_of kind_of held_of RoomIn
kind_room (Register v) h n r = tt
kind_room (WORegister m) h n r = tt
kind_room (Vec d) h n r = r

pub left_room : (k : Kind) (op : Op) (n : ℕ) → op_belongs k op ≡ Ok tt → Room k (held_of k) (suc n)
    → Room (kind_of k (held_after (held_of k) op)) (held_of (kind_of k (held_after (held_of k) op))) n
left_room k op n b r = kind_room k (held_after (held_of k) op) n (step_room k (held_of k) op n b r)

-- an operation that is done though its return is wrong takes no room

stack_pops : (d : ℕ) (p : VecOp) → pops p ≡ true → stack_room d p ≡ Ok tt
unfolding pops stack_room pushes
stack_pops d (Push v) h = absurd cc
stack_pops d Pop h = refl
stack_pops d Len h = refl

taker_room : (h : Held) (op : Op) → takes op ≡ true → room_check h op ≡ Ok tt
unfolding takes room_check
taker_room h (ORegister p) e = refl
taker_room h (OWORegister p) e = refl
taker_room h (OVec p) e = stack_pops h.height p e

pub wrong_room : (h : Held) (op : Op) (ret : Ret) → leaves_wrong op ret ≡ true → room_check h op ≡ Ok tt
unfolding leaves_wrong
wrong_room h op ret e = taker_room h op (grind arith)

-- An operation is done though its return is wrong exactly if it is a Pop with a PopOk.

unpopped : (b : Bool) → pick b false false ≡ true → ⊥
unpopped b e = grind arith

stack_wrong : (p : VecOp) (q : VecRet) → pick (pops p) (popped q) false ≡ true ↔ (p ≡ Pop) × ((m : Option ℤ) × (q ≡ PopOk m))
unfolding pops popped
stack_wrong Pop (PopOk m) = (λ e. (refl, (m, refl)), λ x. refl)
stack_wrong Pop PushOk = (λ e. absurd cc, λ x. absurd cc)
stack_wrong Pop (LenOk n) = (λ e. absurd cc, λ x. absurd cc)
stack_wrong (Push v) q = (λ e. absurd cc, λ x. absurd cc)
stack_wrong Len q = (λ e. absurd cc, λ x. absurd cc)

pub wrong_exactly : (op : Op) (ret : Ret) → leaves_wrong op ret ≡ true ↔ (op ≡ OVec Pop) × ((m : Option ℤ) × (ret ≡ RVec (PopOk m)))
unfolding leaves_wrong takes taken
wrong_exactly (ORegister p) ret = (λ e. absurd cc, λ x. absurd cc)
wrong_exactly (OWORegister p) ret = (λ e. absurd cc, λ x. absurd cc)
wrong_exactly (OVec p) (RVec q) = (
  λ e. let x = (stack_wrong p q).0 e in (ap OVec x.0, (x.1.0, ap RVec x.1.1)),
  λ x. (stack_wrong p q).1 (cc, (x.1.0, cc)),
)
wrong_exactly (OVec p) (RRegister q) = (λ e. absurd (unpopped (pops p) e), λ x. absurd cc)
wrong_exactly (OVec p) (RWORegister q) = (λ e. absurd (unpopped (pops p) e), λ x. absurd cc)

-- in these families a return is right exactly if it is the object's answer

right_same : (items : List ℤ) (h : Held) (op : Op) (ret : Ret) → right_of items h op ret ≡ same_ret (answer_of items h op) ret
unfolding right_of
right_same items h (ORegister p) ret = refl
right_same items h (OWORegister p) ret = refl
right_same items h (OVec p) ret = refl

pub right_answered : (items : List ℤ) (h : Held) (op : Op) (ret : Ret) → right_of items h op ret ≡ true ↔ answer_of items h op ≡ ret
right_answered items h op ret = (
  λ e. returns.equal (answer_of items h op) ret (sym (right_same items h op ret) ∙ e),
  λ e. right_same items h op ret ∙ ap (same_ret (answer_of items h op)) (sym e) ∙ returns.self (answer_of items h op),
)

-- and a right return is one of the object's own
pub right_belongs : (k : Kind) (items : List ℤ) (h : Held) (op : Op) (ret : Ret) → op_belongs k op ≡ Ok tt → right_of items h op ret ≡ true
    → ret_belongs k ret ≡ Ok tt
right_belongs k items h op ret b e = ap (ret_belongs k) (sym ((right_answered items h op ret).0 e)) ∙ answer_belongs k items h op b
