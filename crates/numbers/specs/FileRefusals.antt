-- The refusals of a file by their numbers in document 01.
use Rattle.std.specs.Prelude.{ℕ, ◌≢◌}
use Rattle.std.proofs.Common.{arith}
use Rattle.numbers.specs.declared.refusal.Refusal.{Refusal}
use Rattle.numbers.specs.declared.refusal.Refusal.TheVariants.{TooLong, Unopened, Cut, TooBig, Unknown, StartTooDeep}

unfoldable pub number_of : Refusal → ℕ
number_of TooLong = 20
number_of Unopened = 21
number_of Cut = 22
number_of TooBig = 23
number_of Unknown = 24
number_of StartTooDeep = 25

-- A refusal has no number 0.
pub refusal_number : (why : Refusal) → number_of why ≢ 0
unfolding number_of
refusal_number TooLong e = omega arith
refusal_number Unopened e = omega arith
refusal_number Cut e = omega arith
refusal_number TooBig e = omega arith
refusal_number Unknown e = omega arith
refusal_number StartTooDeep e = omega arith
