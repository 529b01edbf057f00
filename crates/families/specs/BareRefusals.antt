-- Document 01's reasons to refuse a bare step, as conditions, and that each check refuses exactly under its own.
use Rattle.std.specs.Prelude.{ℕ, ◌<◌, ◌≡◌, refl, Bool, true, false, ◌↔◌, ◌≢◌, ◌⊎◌, ℤ, ltb, eqb, Result, Ok, Err}
use Rattle.std.proofs.Common.{sym, ap, subst, inl, inr, ltb-true, ltb-false, eqb-true, eq-eqb, arith}
use Rattle.std.proofs.lemmas.Bool.{eqb-false}
use Rattle.values.specs.Value.{pick}
use Rattle.values.specs.Sizes.{room}
use Rattle.objects.specs.Stack.{pushes, pushed, depth_check, stack_room}
use Rattle.families.specs.Family.{Family, stacks, family_of, op_family, ret_family}
use Rattle.families.specs.Placing.{held_of}
use Rattle.families.specs.Refusals.{op_belongs, ret_belongs, shape_check, is_full, room_check, took_room, step_room}
use Rattle.families.specs.RefusalsExactly.{BelongsWhen, op_exactly, ret_exactly}
use Rattle.families.specs.declared.Kind.{Kind}
use Rattle.families.specs.declared.Kind.TheVariants.{Register, WORegister, Vec}
use Rattle.families.specs.declared.Op.{Op}
use Rattle.families.specs.declared.Op.TheVariants.{Register as ORegister, WORegister as OWORegister, Vec as OVec}
use Rattle.families.specs.declared.Ret.{Ret}
use Rattle.families.specs.declared.Ret.TheVariants.{Register as RRegister, WORegister as RWORegister, Vec as RVec}
use Rattle.objects.specs.declared.vec.VecOp.{VecOp}
use Rattle.objects.specs.declared.vec.VecOp.TheVariants.{Push, Pop, Len}
use Rattle.objects.specs.declared.vec.VecRet.{VecRet}
use Rattle.objects.specs.declared.vec.VecRet.TheVariants.{PushOk, PopOk, LenOk}
use Rattle.values.specs.declared.refusal.Refusal.{Refusal}
use Rattle.values.specs.declared.refusal.Refusal.TheVariants.{OtherFamily, NoRoom, StartTooDeep, OutOfShape}

-- 9: a depth over 96.
abbrev pub TooDeep : Kind → Type 0
TooDeep k = (d : ℕ) × (k ≡ Vec d) × (room < d)

-- 3: an operation, or a return, of another family.

abbrev pub OtherOp : Kind → Op → Type 0
OtherOp k op = op_family op ≢ family_of k

abbrev pub OtherRet : Kind → Ret → Type 0
OtherRet k ret = ret_family ret ≢ family_of k

abbrev pub OtherStep : Kind → Op → Ret → Type 0
OtherStep k op ret = OtherOp k op ⊎ OtherRet k ret

-- 7: a Push on a stack of 96; for a step: a Push with PushOk.

abbrev pub Full : Kind → Type 0
Full k = k ≡ Vec room

abbrev pub WantsRoom : Op → Type 0
WantsRoom op = (v : ℤ) × (op ≡ OVec (Push v))

abbrev pub TookRoom : Ret → Type 0
TookRoom ret = ret ≡ RVec PushOk

abbrev pub Crowded : Kind → Op → Type 0
Crowded k op = Full k × WantsRoom op

abbrev pub CrowdedStep : Kind → Op → Ret → Type 0
CrowdedStep k op ret = Full k × WantsRoom op × TookRoom ret

-- A check refuses with r exactly if P holds, and with nothing else.
abbrev pub Refuses : Refusal → Type 0 → Result Unit Refusal → Type 0
Refuses r P c = ((c ≡ Err r) × P) ⊎ ((c ≡ Ok tt) × (¬ P))

-- the depth

stack_deep : (d : ℕ) → Refuses OutOfShape (TooDeep (Vec d)) (depth_check d)
unfolding depth_check
stack_deep d = go (ltb room d) refl
  where
    go : (b : Bool) → ltb room d ≡ b → Refuses OutOfShape (TooDeep (Vec d)) (pick b (Err OutOfShape) (Ok tt))
    go true e = inl (refl, (d, refl, ltb-true room d e))
    go false e = inr (refl, λ x. let q : d ≡ x.0 = cc in omega (arith, ltb-false room d e))

pub deep_refused : (k : Kind) → Refuses OutOfShape (TooDeep k) (shape_check k)
unfolding shape_check
deep_refused (Register v) = inr (refl, λ x. cc)
deep_refused (WORegister m) = inr (refl, λ x. cc)
deep_refused (Vec d) = stack_deep d

pub in_shape_exactly : (k : Kind) → shape_check k ≡ Ok tt ↔ (¬ TooDeep k)
in_shape_exactly k = go (deep_refused k)
  where
    go : Refuses OutOfShape (TooDeep k) (shape_check k) → shape_check k ≡ Ok tt ↔ (¬ TooDeep k)
    go (inl x) = (λ e. absurd cc, λ n. absurd (n x.1))
    go (inr x) = (λ e. x.1, λ n. x.0)

-- the family

other_refused : (f g : Family) (c : Result Unit Refusal) → BelongsWhen f g c → Refuses OtherFamily (f ≢ g) c
other_refused f g (Ok tt) e = inr (refl, λ n. n e)
other_refused f g (Err OtherFamily) n = inl (refl, n)
other_refused f g (Err NoRoom) w = absurd w
other_refused f g (Err StartTooDeep) w = absurd w
other_refused f g (Err OutOfShape) w = absurd w

pub op_refused : (k : Kind) (op : Op) → Refuses OtherFamily (OtherOp k op) (op_belongs k op)
op_refused k op = other_refused (op_family op) (family_of k) (op_belongs k op) ((op_exactly k op (op_belongs k op)).0 refl)

pub ret_refused : (k : Kind) (ret : Ret) → Refuses OtherFamily (OtherRet k ret) (ret_belongs k ret)
ret_refused k ret = other_refused (ret_family ret) (family_of k) (ret_belongs k ret) ((ret_exactly k ret (ret_belongs k ret)).0 refl)

-- the room

pub full_exactly : (k : Kind) → is_full k ≡ true ↔ Full k
unfolding is_full
full_exactly (Register v) = (λ e. absurd cc, λ e. absurd cc)
full_exactly (WORegister m) = (λ e. absurd cc, λ e. absurd cc)
full_exactly (Vec d) = (λ e. ap Vec (eqb-true d room e), λ e. eq-eqb d room cc)

stack_full : (d : ℕ) (p : VecOp) → Refuses NoRoom (Crowded (Vec d) (OVec p)) (stack_room d p)
unfolding stack_room pushes
stack_full d (Push v) = go (eqb d room) refl
  where
    go : (b : Bool) → eqb d room ≡ b → Refuses NoRoom (Crowded (Vec d) (OVec (Push v))) (pick b (Err NoRoom) (Ok tt))
    go true e = inl (refl, (ap Vec (eqb-true d room e), (v, refl)))
    go false e = inr (refl, λ x. eqb-false d room e (let q : Vec d ≡ Vec room = x.0 in cc))
stack_full d Pop = inr (refl, λ x. cc)
stack_full d Len = inr (refl, λ x. cc)

-- an object to which a stack's operation belongs is a stack
stack_kind : (k : Kind) → stacks ≡ family_of k → (d : ℕ) × (k ≡ Vec d)
unfolding family_of
stack_kind (Register v) e = absurd cc
stack_kind (WORegister m) e = absurd cc
stack_kind (Vec d) e = (d, refl)

own_room : (k : Kind) (op : Op) → op_family op ≡ family_of k → Refuses NoRoom (Crowded k op) (room_check (held_of k) op)
unfolding room_check op_family held_of
own_room k (ORegister p) e = inr (refl, λ x. cc)
own_room k (OWORegister p) e = inr (refl, λ x. cc)
own_room k (OVec p) e =
    let s = stack_kind k e in
    subst (λ (l : Kind). Refuses NoRoom (Crowded l (OVec p)) (room_check (held_of l) (OVec p))) (sym s.1) (stack_full s.0 p)

own_op_if : (k : Kind) (op : Op) → ¬ OtherOp k op → op_family op ≡ family_of k
own_op_if k op n = go (op_refused k op)
  where
    go : Refuses OtherFamily (OtherOp k op) (op_belongs k op) → op_family op ≡ family_of k
    go (inl x) = absurd (n x.1)
    go (inr x) = (op_exactly k op (Ok tt)).0 x.0

pub room_refused : (k : Kind) (op : Op) → ¬ OtherOp k op → Refuses NoRoom (Crowded k op) (room_check (held_of k) op)
room_refused k op n = own_room k op (own_op_if k op n)

-- a return says that room was taken exactly if it is PushOk
stack_took : (q : VecRet) → pushed q ≡ true ↔ TookRoom (RVec q)
unfolding pushed
stack_took PushOk = (λ e. refl, λ e. refl)
stack_took (PopOk m) = (λ e. absurd cc, λ e. absurd cc)
stack_took (LenOk n) = (λ e. absurd cc, λ e. absurd cc)

pub took_exactly : (ret : Ret) → took_room ret ≡ true ↔ TookRoom ret
unfolding took_room
took_exactly (RRegister q) = (λ e. absurd cc, λ e. absurd cc)
took_exactly (RWORegister q) = (λ e. absurd cc, λ e. absurd cc)
took_exactly (RVec q) = stack_took q

pub step_room_refused : (k : Kind) (op : Op) (ret : Ret) → ¬ OtherOp k op
    → Refuses NoRoom (CrowdedStep k op ret) (step_room (held_of k) op ret)
unfolding step_room
step_room_refused k op ret n = go (took_room ret) refl (room_refused k op n)
  where
    go : (b : Bool) → took_room ret ≡ b → Refuses NoRoom (Crowded k op) (room_check (held_of k) op)
        → Refuses NoRoom (CrowdedStep k op ret) (pick b (room_check (held_of k) op) (Ok tt))
    go true t (inl x) = inl (x.0, (x.1.0, x.1.1, (took_exactly ret).0 t))
    go true t (inr x) = inr (x.0, λ y. x.1 (y.0, y.1))
    go false t x = inr (refl, λ y. let z : took_room ret ≡ true = (took_exactly ret).1 y.2 in cc)
