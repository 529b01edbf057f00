-- How an operation, a return or a start is told in numbers: its number, how many values it carries, and the value as a number.
use Rattle.std.specs.Prelude.{ℕ, Bool, false, eqb, ℤ, Option, Some, None}
use Rattle.values.specs.Value.{pick, zigzag, signed}
use Rattle.values.specs.declared.coded.Coded.{Coded}

abbrev pub coded : ℕ → ℕ → ℕ → Coded
coded n c w = record { number = n; count = c; word = w }

-- nothing or a value, with number n, and back

abbrev pub maybe_count : Option ℤ → ℕ
maybe_count None = 0
maybe_count (Some v) = 1

abbrev pub maybe_word : Option ℤ → ℕ
maybe_word None = 0
maybe_word (Some v) = zigzag v

unfoldable pub maybe_coded : ℕ → Option ℤ → Coded
maybe_coded n m = coded n (maybe_count m) (maybe_word m)

unfoldable pub maybe_from : Coded → Option ℤ
maybe_from c = pick (eqb c.count 0) None (Some (signed c.word))

-- the same numbers
unfoldable pub same_coded : Coded → Coded → Bool
same_coded a b = pick (eqb a.number b.number) (pick (eqb a.count b.count) (eqb a.word b.word) false) false
