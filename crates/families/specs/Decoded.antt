-- What the table of numbers makes: an object that a tester starts with, and operations and returns of the family that they are read in.
use Rattle.std.specs.Prelude.{◌≤◌, ◌≡◌, refl, Bool, true, false, List, ℤ, eqb, Some, None, Ok}
use Rattle.std.proofs.Common.{ap, arith, eq-eqb, le-ltb}
use Rattle.values.specs.Sizes.{room, start_room}
use Rattle.values.specs.Value.{pick, signed}
use Rattle.values.specs.Coded.{maybe_coded, maybe_from}
use Rattle.objects.specs.Stack.{depth_check, low_check}
use Rattle.families.specs.Family.{Family, registers, write_onces, stacks, family_of, op_family, ret_family, family_number}
use Rattle.families.specs.Objects.{new_register, new_once, new_stack}
use Rattle.families.specs.Codes.{op_from, ret_from, start_coded, start_from}
use Rattle.values.specs.Sent.{sent_back}
use Rattle.values.specs.Checks.{in_order}
use Rattle.families.specs.Refusals.{family_check, op_belongs, ret_belongs, shape_check, size_check, start_check}
use Rattle.values.specs.declared.coded.Coded.{Coded}
use Rattle.families.specs.declared.Kind.{Kind}
use Rattle.families.specs.declared.Kind.TheVariants.{Register, WORegister, Vec}

-- A start of at most 32 values is one that a constructor takes.
pub start_clear : (c : Coded) (items : List ℤ) → c.count ≤ start_room → start_check (start_from c items).kind ≡ Ok tt
unfolding start_from new_register new_once new_stack start_check shape_check size_check in_order depth_check low_check
start_clear c items h = go (eqb c.number 0) (eqb c.number 1)
  where
    deep : c.count ≤ room
    deep = omega arith

    go : (a b : Bool)
        → start_check (pick a (new_register (signed c.word)) (pick b (new_once (maybe_from c)) (new_stack items c.count))).kind ≡ Ok tt
    go true b = refl
    go false true = refl
    go false false = rw (le-ltb room c.count deep, le-ltb start_room c.count h) refl

pub op_from_family : (f : Family) (c : Coded) → op_family (op_from f c) ≡ f
unfolding op_family op_from
op_from_family registers c = refl
op_from_family write_onces c = refl
op_from_family stacks c = refl

pub ret_from_family : (f : Family) (c : Coded) → ret_family (ret_from f c) ≡ f
unfolding ret_family ret_from
ret_from_family registers c = refl
ret_from_family write_onces c = refl
ret_from_family stacks c = refl

same_clear : (f g : Family) → f ≡ g → family_check f g ≡ Ok tt
unfolding family_check
same_clear f g e = rw (eq-eqb (family_number f) (family_number g) (ap family_number e)) refl

-- An operation or a return that is read in the family of an object belongs to it.

pub op_from_belongs : (k : Kind) (c : Coded) → op_belongs k (op_from (family_of k) c) ≡ Ok tt
unfolding op_belongs
op_from_belongs k c = same_clear (op_family (op_from (family_of k) c)) (family_of k) (op_from_family (family_of k) c)

pub ret_from_belongs : (k : Kind) (c : Coded) → ret_belongs k (ret_from (family_of k) c) ≡ Ok tt
unfolding ret_belongs
ret_from_belongs k c = same_clear (ret_family (ret_from (family_of k) c)) (family_of k) (ret_from_family (family_of k) c)

-- Of a start's numbers, with its items, comes an object of the same kind.
pub start_back : (k : Kind) (items : List ℤ) → (start_from (start_coded k) items).kind ≡ k
unfolding start_from start_coded new_register new_once new_stack maybe_coded maybe_from
start_back (Register v) items = ap Register (sent_back v)
start_back (WORegister None) items = refl
start_back (WORegister (Some v)) items = ap (λ (w : ℤ). WORegister (Some w)) (sent_back v)
start_back (Vec d) items = refl

-- What starts by a family's number is an object of that family.
pub start_family : (f : Family) (c : Coded) (items : List ℤ) → c.number ≡ family_number f → family_of (start_from c items).kind ≡ f
unfolding start_from new_register new_once new_stack family_of family_number
start_family registers c items e = rw e refl
start_family write_onces c items e = rw e refl
start_family stacks c items e = rw e refl
