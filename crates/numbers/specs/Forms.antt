-- What bytes can begin with, by document 01: a form of a number, a number that the end cuts off, or one that is too big. Each is a condition on the
-- bytes, with no reader in it.
use Rattle.std.specs.Prelude.{ℕ, zero, suc, ◌+◌, ◌*◌, ◌%◌, ◌^◌, ◌<◌, ◌≤◌, ◌≡◌, List, length, get_or}
use Rattle.numbers.specs.declared.refusal.Refusal.TheVariants.{TooLong, Unopened, Cut, TooBig, Unknown, StartTooDeep}
use Rattle.numbers.specs.Reader.{Read, got, refused}

-- The groups of the first k bytes, lowest first: the byte at place i times 128 ^ i.
abbrev pub sum_of : List ℕ → ℕ → ℕ
sum_of s zero = 0
sum_of s (suc i) = sum_of s i + get_or s i 0 % 128 * 128 ^ i

-- "Seven bits to a byte, lowest group first, top bit set when more follow; at most five bytes": the first k bytes are a form of n. A group of
-- zero at the end is a group like others.
pub record Form (s : List ℕ) (n k : ℕ) : Type 0 where
  pub some : 1 ≤ k
  pub five : k ≤ 5
  pub here : k ≤ length s
  pub more : (i : ℕ) → i + 1 < k → 128 ≤ get_or s i 0
  pub last : (i : ℕ) → i + 1 ≡ k → get_or s i 0 < 128
  pub sum : sum_of s k ≡ n
  pub small : n < 2 ^ 32

-- 22, "number cut off by the end": every byte that is there says that more follow, and there are fewer than five; or none at all.
pub record CutOff (s : List ℕ) : Type 0 where
  pub few : length s < 5
  pub more : (i : ℕ) → i < length s → 128 ≤ get_or s i 0

-- 23, "number above 4,294,967,295 or over five bytes": four bytes say that more follow, and "a fifth byte above 15 gives 23 at once, whatever
-- follows".
pub record Over (s : List ℕ) : Type 0 where
  pub fifth : 5 ≤ length s
  pub more : (i : ℕ) → i < 4 → 128 ≤ get_or s i 0
  pub above : 15 < get_or s 4 0

-- What has to be so where that is read at the beginning of the bytes; a number is refused for no other reason.
abbrev pub When : List ℕ → Read ℕ → Type 0
When s (got n k) = Form s n k
When s (refused Cut) = CutOff s
When s (refused TooBig) = Over s
When s (refused TooLong) = ⊥
When s (refused Unopened) = ⊥
When s (refused Unknown) = ⊥
When s (refused StartTooDeep) = ⊥
