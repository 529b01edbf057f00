-- A number of a corpus file, on the list of its bytes.
use Rattle.std.specs.Prelude.{ℕ, ◌+◌, ◌*◌, ◌%◌, ◌^◌, Bool, true, false, List, [], ◌∷◌, ltb}
use Rattle.values.specs.Value.{pick}
use Rattle.numbers.specs.declared.refusal.Refusal.TheVariants.{Cut, TooBig}
use Rattle.numbers.specs.Reader.{Read, got, refused, Reader}

-- numbers: seven bits to a byte, lowest group first, top bit set when more follow; at most five bytes

-- A fifth byte above 15 is refused at once, whatever follows.
unfoldable pub too_big : ℕ → ℕ → Bool
too_big i b = pick (ltb 3 i) (ltb 15 b) false

-- What a byte makes of a number, by whether it is too big and whether it is the last; `sum` is with its group, and i the place behind it.
abbrev pub group_by : Bool → Bool → (ℕ → ℕ → Read ℕ) → ℕ → ℕ → Read ℕ
group_by true last go i sum = refused TooBig
group_by false true go i sum = got sum i
group_by false false go i sum = go i sum

-- The number from byte i on, where the groups before it sum to `sum`: a byte b at place i adds its group, b % 128, times 128 ^ i.
-- Groups of zero at the end are groups like others.
unfoldable pub number_from : List ℕ → ℕ → ℕ → Read ℕ
number_from [] i sum = refused Cut
number_from (b ∷ bs) i sum = group_by (too_big i b) (ltb b 128) (number_from bs) (i + 1) (sum + b % 128 * 128 ^ i)

unfoldable pub number : Reader ℕ
number s = number_from s 0 0
