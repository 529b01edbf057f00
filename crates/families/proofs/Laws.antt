-- Laws of families, which their numbers tell apart.
use Rattle.std.proofs.Common.{◌≡◌, refl, arith, eqb, ne_eqb, false}
use denote.Enum.Bare.{sameb}
use Rattle.objects.specs.declared.register.RegisterRet.{RegisterRet}
use Rattle.objects.specs.declared.write_once_register.WORegisterRet.{WORegisterRet}
use Rattle.objects.specs.declared.vec.VecRet.{VecRet}
use Rattle.families.specs.contracts.family.Family.{the_type}
use Rattle.families.specs.Family.{Family, registers, write_onces, stacks, ret_family, family_number}
use Rattle.families.specs.Families.{same_ret}
use Rattle.families.specs.declared.Ret.{Ret}
use Rattle.families.specs.declared.Ret.TheVariants.{Register, WORegister, Vec}

-- The derived equality of families compares their numbers.
pub same_families : (f g : Family) → sameb the_type f g ≡ eqb (family_number f) (family_number g)
unfolding family_number
same_families registers registers = refl
same_families registers write_onces = refl
same_families registers stacks = refl
same_families write_onces registers = refl
same_families write_onces write_onces = refl
same_families write_onces stacks = refl
same_families stacks registers = refl
same_families stacks write_onces = refl
same_families stacks stacks = refl

-- A return of another family is not the same, and one that is none of a family has another number.

pub other_family : (a r : Ret) → (family_number (ret_family a) ≡ family_number (ret_family r) → ⊥) → false ≡ same_ret a r
unfolding same_ret
other_family a r none = rw (ne_eqb (family_number (ret_family a)) (family_number (ret_family r)) none)

pub no_register : (r : Ret) → ((q : RegisterRet) → r ≡ Register q → ⊥) → 0 ≡ family_number (ret_family r) → ⊥
unfolding family_number ret_family
no_register (Register q) n e = n q refl
no_register (WORegister q) n e = omega arith
no_register (Vec q) n e = omega arith

pub no_write_once : (r : Ret) → ((q : WORegisterRet) → r ≡ WORegister q → ⊥) → 1 ≡ family_number (ret_family r) → ⊥
unfolding family_number ret_family
no_write_once (Register q) n e = omega arith
no_write_once (WORegister q) n e = n q refl
no_write_once (Vec q) n e = omega arith

pub no_stack : (r : Ret) → ((q : VecRet) → r ≡ Vec q → ⊥) → 2 ≡ family_number (ret_family r) → ⊥
unfolding family_number ret_family
no_stack (Register q) n e = omega arith
no_stack (WORegister q) n e = omega arith
no_stack (Vec q) n e = n q refl
