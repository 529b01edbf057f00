-- The two words in which an object is held.
use Rattle.std.specs.Prelude.{ℕ, ℤ}
use Rattle.values.specs.declared.held.Held.{Held}

abbrev pub held : ℤ → ℕ → Held
held v h = record { value = v; height = h }
