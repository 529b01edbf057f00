-- The sum of a number's first bytes, whatever follows them.
use Rattle.std.specs.Prelude.{ℕ, zero, suc, ◌≤◌, ◌≡◌, refl, List, ◌++◌, length}
use Rattle.std.proofs.Common.{arith}
use Rattle.std.proofs.Math.ListN.{get_or-append}
use Rattle.numbers.specs.Forms.{sum_of}

-- So a form of a number is read as the number, whatever follows.

pub sum_append : (s rest : List ℕ) (k : ℕ) → k ≤ length s → sum_of (s ++ rest) k ≡ sum_of s k
sum_append s rest zero h = refl
sum_append s rest (suc i) h = rw (sum_append s rest i (omega arith), get_or-append s rest 0 i (omega arith)) refl
