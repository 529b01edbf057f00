-- Reading fields one after the other, from left to right; the first refusal stands.
use Rattle.std.specs.Prelude.{ℕ, ◌+◌, List, Result, Ok, Err, drop}
use Rattle.numbers.specs.declared.Got.{Got}
use Rattle.numbers.specs.declared.refusal.Refusal.{Refusal}

infixl 20 ◌then◌
-- What a field says and how many bytes it took, or why it is refused.
pub data Read (A : Type 0) : Type 0 where
  got : A → ℕ → Read A
  refused : Refusal → Read A

-- A field that begins with the first of the bytes.
abbrev pub Reader : Type 0 → Type 0
Reader A = List ℕ → Read A

-- Counted from n bytes further ahead.
abbrev pub later : {A : Type 0} → ℕ → Read A → Read A
later n (got a used) = got a (n + used)
later n (refused why) = refused why

-- A field that begins at a place; what it took is counted from the first byte, and so is the place behind it.
unfoldable pub from : {A : Type 0} → Reader A → List ℕ → ℕ → Read A
from f s at = later at (f (drop at s))

-- A field of no bytes.
unfoldable pub give : {A : Type 0} → A → Reader A
give a s = got a 0

unfoldable pub refuse : {A : Type 0} → Refusal → Reader A
refuse why s = refused why

-- A field, and behind it what is due after what it says.
abbrev pub behind : {A B : Type 0} → (A → Reader B) → List ℕ → Read A → Read B
behind g s (got a used) = from (g a) s used
behind g s (refused why) = refused why

unfoldable pub ◌then◌ : {A B : Type 0} → Reader A → (A → Reader B) → Reader B
◌then◌ f g s = behind g s (f s)

-- as the code hands it back
abbrev pub as_read : {A : Type 0} → Read A → Result (Got A) Refusal
as_read (got a used) = Ok (record { value = a; next = used })
as_read (refused why) = Err why
