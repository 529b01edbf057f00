-- A number inside a family, what follows it by a column of the table, and what they tell.
use Rattle.std.specs.Prelude.{ℕ}
use Rattle.values.specs.declared.coded.Coded.{Coded}
use Rattle.values.specs.declared.coded.Form.{Form}
use Rattle.families.specs.declared.Kind.{Kind}
use Rattle.families.specs.declared.family.Family.{Family}
use Rattle.families.specs.Family.{family_of}
use Rattle.numbers.specs.Reader.{Reader, give, ◌then◌}
use Rattle.numbers.specs.Number.{number}
use Rattle.format.specs.Format.{payload}

module _ {A : Type 0} (form : Family → ℕ → Form) (value : Family → Coded → A) (k : Kind) where
  unfoldable pub told_of : ℕ → Reader A
  told_of n = payload n (form (family_of k) n) then λ c. give (value (family_of k) c)

  unfoldable pub told : Reader A
  told = number then told_of
