-- The families, by name and by number: 0 register, 1 write-once register, 2 stack.
use Rattle.std.specs.Prelude.{ℕ, ℤ, pos, negsuc, ◌≡◌, refl, Bool, true, false, eqb, Option, Some, None}
use Rattle.std.proofs.Common.{sym, ap, ◌∙◌, eqb-true}
use Rattle.values.specs.Value.{pick}
use Rattle.families.specs.declared.Kind.{Kind}
use Rattle.families.specs.declared.Kind.TheVariants.{Register, WORegister, Vec}
use Rattle.families.specs.declared.Op.{Op}
use Rattle.families.specs.declared.Op.TheVariants.{Register as ORegister, WORegister as OWORegister, Vec as OVec}
use Rattle.families.specs.declared.Ret.{Ret}
use Rattle.families.specs.declared.Ret.TheVariants.{Register as RRegister, WORegister as RWORegister, Vec as RVec}
pub use Rattle.families.specs.declared.family.Family.{Family}
pub use Rattle.families.specs.declared.family.Family.TheVariants.{Register as registers, WORegister as write_onces, Vec as stacks}

unfoldable pub family_of : Kind → Family
family_of (Register v) = registers
family_of (WORegister m) = write_onces
family_of (Vec d) = stacks

unfoldable pub op_family : Op → Family
op_family (ORegister p) = registers
op_family (OWORegister p) = write_onces
op_family (OVec p) = stacks

unfoldable pub ret_family : Ret → Family
ret_family (RRegister q) = registers
ret_family (RWORegister q) = write_onces
ret_family (RVec q) = stacks

-- the number of a family, and the family of a number

unfoldable pub family_number : Family → ℕ
family_number registers = 0
family_number write_onces = 1
family_number stacks = 2

unfoldable pub family_at : ℕ → Option Family
family_at n = pick (eqb n 0) (Some registers) (pick (eqb n 1) (Some write_onces) (pick (eqb n 2) (Some stacks) None))

pub family_at_lem : (f : Family) → family_at (family_number f) ≡ Some f
unfolding family_at family_number
family_at_lem registers = refl
family_at_lem write_onces = refl
family_at_lem stacks = refl

-- the family that a number of a text tells
unfoldable pub family_told : ℤ → Option Family
family_told (pos n) = family_at n
family_told (negsuc n) = None

-- it has that number
pub told_number : (z : ℤ) (f : Family) → family_told z ≡ Some f → z ≡ pos (family_number f)
unfolding family_told family_at family_number
told_number (negsuc n) f e = cc
told_number (pos n) f e = ap pos (go (eqb n 0) refl (eqb n 1) refl (eqb n 2) refl e)
  where
    go : (a : Bool) → eqb n 0 ≡ a → (b : Bool) → eqb n 1 ≡ b → (c : Bool) → eqb n 2 ≡ c
        → pick a (Some registers) (pick b (Some write_onces) (pick c (Some stacks) None)) ≡ Some f → n ≡ family_number f
    go true p b q c r e = let own : registers ≡ f = cc in eqb-true n 0 p ∙ ap family_number own
    go false p true q c r e = let own : write_onces ≡ f = cc in eqb-true n 1 q ∙ ap family_number own
    go false p false q true r e = let own : stacks ≡ f = cc in eqb-true n 2 r ∙ ap family_number own
    go false p false q false r e = cc

-- and each family is told by its number
pub number_told : (f : Family) → family_told (pos (family_number f)) ≡ Some f
unfolding family_told
number_told f = family_at_lem f

-- families of one number are one family, so that a pair of them is compared by their numbers
pub same_family : (f g : Family) → family_number f ≡ family_number g → f ≡ g
same_family f g e = let z : Some f ≡ Some g = sym (family_at_lem f) ∙ ap family_at e ∙ family_at_lem g in cc
