-- Values: when two are the same, how a value is sent as a number, a choice by a test, and that a promise which is an equation leaves one outcome.
use Rattle.std.specs.Prelude.{ℕ, ◌+◌, ◌*◌, ◌/◌, ◌%◌, ◌≡◌, Bool, true, false, ℤ, pos, negsuc, eqb, Option, Some, None}
use Rattle.std.proofs.Common.{sym, ◌∙◌}

abbrev pub pick : {A : Type 0} → Bool → A → A → A
pick true a b = a
pick false a b = b

-- A value v is sent as 2v when v ≥ 0 and as -2v - 1 when negative. (negsuc n is -(n + 1).)
unfoldable pub zigzag : ℤ → ℕ
zigzag (pos n) = 2 * n
zigzag (negsuc n) = 2 * n + 1

-- The value of a number n: n / 2 where n is even, and -(n / 2) - 1 where it is odd.
unfoldable pub signed : ℕ → ℤ
signed n = pick (eqb (n % 2) 0) (pos (n / 2)) (negsuc (n / 2))

-- two values are the same if they are sent as the same number
unfoldable pub eq_z : ℤ → ℤ → Bool
eq_z a b = eqb (zigzag a) (zigzag b)

unfoldable pub same_maybe : Option ℤ → Option ℤ → Bool
same_maybe None None = true
same_maybe None (Some b) = false
same_maybe (Some a) None = false
same_maybe (Some a) (Some b) = eq_z a b

-- Where the promise of a call is that what it hands back equals a definition, no second outcome satisfies it.
pub one_outcome : {A : Type 0} {defined a b : A} → a ≡ defined → b ≡ defined → a ≡ b
one_outcome h k = h ∙ sym k
