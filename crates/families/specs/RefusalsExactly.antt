-- What an object says of being a start, and of an operation or a return, in document 01's words; and the default that stands in for a start that is
-- refused.
use Rattle.std.specs.Prelude.{ℕ, ◌<◌, ◌≤◌, ◌≡◌, refl, Bool, true, false, ◌↔◌, ◌≢◌, ltb, eqb, Result, Ok, Err}
use Rattle.std.proofs.Common.{sym, ap, subst, ltb-true, ltb-false, lt-ltb, le-ltb, eqb-true, eq-eqb, ne_eqb, arith}
use Rattle.std.proofs.lemmas.Bool.{eqb-false}
use Rattle.values.specs.Value.{pick}
use Rattle.values.specs.Sizes.{room, start_room}
use Rattle.objects.specs.Stack.{depth_check, low_check}
use Rattle.families.specs.Family.{Family, family_of, op_family, ret_family, family_number, same_family}
use Rattle.families.specs.Objects.{zeros, new_register, new_once, new_stack, stand_in}
use Rattle.values.specs.Checks.{number_of, in_order}
use Rattle.families.specs.Refusals.{family_check, op_belongs, ret_belongs, shape_check, size_check, start_check}
use Rattle.families.specs.declared.Kind.{Kind}
use Rattle.families.specs.declared.Kind.TheVariants.{Register, WORegister, Vec}
use Rattle.families.specs.declared.Op.{Op}
use Rattle.families.specs.declared.Ret.{Ret}
use Rattle.values.specs.declared.refusal.Refusal.{Refusal}
use Rattle.values.specs.declared.refusal.Refusal.TheVariants.{OtherFamily, NoRoom, StartTooDeep, OutOfShape}

-- A stack of depth d: 9 beyond the room of a stack, 8 beyond that of a start.
abbrev pub StackStartWhen : ℕ → Result Unit Refusal → Type 0
StackStartWhen d (Ok tt) = d ≤ start_room
StackStartWhen d (Err StartTooDeep) = (d ≤ room) × (start_room < d)
StackStartWhen d (Err OutOfShape) = room < d
StackStartWhen d (Err OtherFamily) = ⊥
StackStartWhen d (Err NoRoom) = ⊥

-- A register of either kind is always a start.
abbrev pub StartWhen : Kind → Result Unit Refusal → Type 0
StartWhen (Register v) c = c ≡ Ok tt
StartWhen (WORegister m) c = c ≡ Ok tt
StartWhen (Vec d) c = StackStartWhen d c

-- Each is said exactly under its condition.
pub start_exactly : (k : Kind) (c : Result Unit Refusal) → start_check k ≡ c ↔ StartWhen k c
unfolding start_check shape_check size_check in_order depth_check low_check
start_exactly (Register v) c = (λ e. sym e, λ e. sym e)
start_exactly (WORegister m) c = (λ e. sym e, λ e. sym e)
start_exactly (Vec d) c = (λ e. subst (StackStartWhen d) e (gives (ltb room d) (ltb start_room d) refl refl), given c)
  where
    said : Bool → Bool → Result Unit Refusal
    said a b = in_order (pick a (Err OutOfShape) (Ok tt)) (pick b (Err StartTooDeep) (Ok tt))

    gives : (a b : Bool) → ltb room d ≡ a → ltb start_room d ≡ b → StackStartWhen d (said a b)
    gives true b ea eb = ltb-true room d ea
    gives false true ea eb = (ltb-false room d ea, ltb-true start_room d eb)
    gives false false ea eb = ltb-false start_room d eb

    given : (c : Result Unit Refusal) → StackStartWhen d c → said (ltb room d) (ltb start_room d) ≡ c
    given (Ok tt) w = rw (le-ltb room d (omega arith), le-ltb start_room d w)
    given (Err StartTooDeep) w = rw (le-ltb room d w.0, lt-ltb start_room d w.1)
    given (Err OutOfShape) w = rw (lt-ltb room d w)
    given (Err OtherFamily) w = absurd w
    given (Err NoRoom) w = absurd w

-- An operation or a return of family f, said by an object of family g: 3 for another family.
abbrev pub BelongsWhen : Family → Family → Result Unit Refusal → Type 0
BelongsWhen f g (Ok tt) = f ≡ g
BelongsWhen f g (Err OtherFamily) = f ≢ g
BelongsWhen f g (Err NoRoom) = ⊥
BelongsWhen f g (Err StartTooDeep) = ⊥
BelongsWhen f g (Err OutOfShape) = ⊥

family_exactly : (f g : Family) (c : Result Unit Refusal) → family_check f g ≡ c ↔ BelongsWhen f g c
unfolding family_check
family_exactly f g c = (λ e. subst (BelongsWhen f g) e (gives (eqb (family_number f) (family_number g)) refl), given c)
  where
    gives : (b : Bool) → eqb (family_number f) (family_number g) ≡ b → BelongsWhen f g (pick b (Ok tt) (Err OtherFamily))
    gives true e = same_family f g (eqb-true (family_number f) (family_number g) e)
    gives false e = λ z. eqb-false (family_number f) (family_number g) e (ap family_number z)

    given : (c : Result Unit Refusal) → BelongsWhen f g c → pick (eqb (family_number f) (family_number g)) (Ok tt) (Err OtherFamily) ≡ c
    given (Ok tt) e = rw (eq-eqb (family_number f) (family_number g) (ap family_number e))
    given (Err OtherFamily) d = rw (ne_eqb (family_number f) (family_number g) (λ e. d (same_family f g e)))
    given (Err NoRoom) w = absurd w
    given (Err StartTooDeep) w = absurd w
    given (Err OutOfShape) w = absurd w

pub op_exactly : (k : Kind) (op : Op) (c : Result Unit Refusal) → op_belongs k op ≡ c ↔ BelongsWhen (op_family op) (family_of k) c
unfolding op_belongs
op_exactly k op c = family_exactly (op_family op) (family_of k) c

pub ret_exactly : (k : Kind) (ret : Ret) (c : Result Unit Refusal) → ret_belongs k ret ≡ c ↔ BelongsWhen (ret_family ret) (family_of k) c
unfolding ret_belongs
ret_exactly k ret c = family_exactly (ret_family ret) (family_of k) c

-- What is refused of them is number 3.

three : (f g : Family) (r : Refusal) → BelongsWhen f g (Err r) → number_of r ≡ 3
unfolding number_of
three f g OtherFamily d = refl
three f g NoRoom w = absurd w
three f g StartTooDeep w = absurd w
three f g OutOfShape w = absurd w

pub op_three : (k : Kind) (op : Op) (r : Refusal) → op_belongs k op ≡ Err r → number_of r ≡ 3
op_three k op r e = three (op_family op) (family_of k) r ((op_exactly k op (Err r)).0 e)

pub ret_three : (k : Kind) (ret : Ret) (r : Refusal) → ret_belongs k ret ≡ Err r → number_of r ≡ 3
ret_three k ret r e = three (ret_family ret) (family_of k) r ((ret_exactly k ret (Err r)).0 e)

-- What stands in is a start itself, of the same family.

pub stand_in_starts : (k : Kind) → start_check (stand_in k).kind ≡ Ok tt
unfolding stand_in new_register new_once new_stack start_check shape_check size_check in_order depth_check low_check
stand_in_starts (Register v) = refl
stand_in_starts (WORegister m) = refl
stand_in_starts (Vec d) = refl

-- only stacks are refused, and the empty one stands in
pub stand_in_empty : (k : Kind) (r : Refusal) → start_check k ≡ Err r → stand_in k ≡ new_stack zeros 0
unfolding stand_in start_check shape_check size_check in_order
stand_in_empty (Register v) r e = absurd cc
stand_in_empty (WORegister m) r e = absurd cc
stand_in_empty (Vec d) r e = refl

pub stand_in_family : (k : Kind) → family_of (stand_in k).kind ≡ family_of k
unfolding stand_in new_register new_once new_stack family_of
stand_in_family (Register v) = refl
stand_in_family (WORegister m) = refl
stand_in_family (Vec d) = refl
