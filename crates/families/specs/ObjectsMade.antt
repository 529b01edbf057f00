-- What the constructors make: an object of its family that holds what was given.
use Rattle.std.specs.Prelude.{ℕ, zero, suc, ◌≤◌, ◌<◌, ◌≡◌, refl, List, [], ◌∷◌, reverse, length, get_or, take, ℤ, pos, ◌↔◌, Option, Some, None}
use Rattle.std.proofs.Common.{sym, ap, ◌∙◌, take-suc, arith}
use Rattle.std.proofs.lemmas.List.{reverse-append}
use Rattle.values.specs.Sizes.{room}
use Rattle.objects.specs.Stack.{held_values}
use Rattle.families.specs.Families.{State}
use Rattle.families.specs.Family.{Family, registers, write_onces, stacks, family_of}
use Rattle.families.specs.Objects.{zeros, new_register, new_once, new_stack, stand_in}
use Rattle.families.specs.States.{state_of}
use Rattle.families.specs.BareRefusals.{TooDeep}
use Rattle.families.specs.declared.Kind.{Kind}
use Rattle.families.specs.declared.Kind.TheVariants.{Register, WORegister, Vec}
use Rattle.families.specs.declared.Object.{Object}

-- An object is of a family, holds these values, the top first, and has these items.
pub record Makes (o : Object) (f : Family) (vs : State) (items : List ℤ) : Type 0 where
  pub of_family : family_of o.kind ≡ f
  pub holding : state_of o.kind o.items ≡ vs
  pub storing : o.items ≡ items

-- A register holds its value.
pub register_made : (v : ℤ) → Makes (new_register v) registers (v ∷ []) zeros
unfolding new_register family_of state_of
register_made v = record { of_family = refl; holding = refl; storing = refl }

-- A write-once register holds nothing, or its value.

pub nothing_made : Makes (new_once None) write_onces [] zeros
unfolding new_once family_of state_of
nothing_made = record { of_family = refl; holding = refl; storing = refl }

pub value_made : (v : ℤ) → Makes (new_once (Some v)) write_onces (v ∷ []) zeros
unfolding new_once family_of state_of
value_made v = record { of_family = refl; holding = refl; storing = refl }

-- A stack holds the first d items, which are given bottom first; what stands above them is kept.

turned : (items : List ℤ) (d : ℕ) → d ≤ length items → held_values items d ≡ reverse (take d items)
unfolding held_values
turned items zero h = refl
turned items (suc d) h =
    let l : d < length items = omega arith in
    ap (λ (vs : List ℤ). get_or items d (pos 0) ∷ vs) (turned items d (omega arith))
    ∙ sym (reverse-append (take d items) (get_or items d (pos 0) ∷ []))
    ∙ ap reverse (sym (take-suc items d (pos 0) l))

pub stack_made : (items : List ℤ) (d : ℕ) → length items ≡ room → d ≤ room → Makes (new_stack items d) stacks (reverse (take d items)) items
unfolding new_stack family_of state_of
stack_made items d full h = record { of_family = refl; holding = turned items d (omega arith); storing = refl }

-- Defaults: register 0, write-once nothing, stack empty.

abbrev pub initial : Family → State
initial registers = pos 0 ∷ []
initial write_onces = []
initial stacks = []

pub default_made : (k : Kind) → Makes (stand_in k) (family_of k) (initial (family_of k)) zeros
unfolding stand_in family_of new_register new_once new_stack state_of held_values
default_made (Register v) = record { of_family = refl; holding = refl; storing = refl }
default_made (WORegister m) = record { of_family = refl; holding = refl; storing = refl }
default_made (Vec d) = record { of_family = refl; holding = refl; storing = refl }

-- Only a stack may be made too deep, and is exactly if the depth given is over 96.

pub register_shaped : (v : ℤ) → ¬ TooDeep (new_register v).kind
unfolding new_register
register_shaped v x = cc

pub once_shaped : (m : Option ℤ) → ¬ TooDeep (new_once m).kind
unfolding new_once
once_shaped m x = cc

pub stack_shaped : (items : List ℤ) (d : ℕ) → TooDeep (new_stack items d).kind ↔ room < d
unfolding new_stack
stack_shaped items d = (λ x. let q : d ≡ x.0 = cc in omega arith, λ h. (d, refl, h))
