-- What is told of how verdicts move: the verdict after inputs, a refusal, and a budget that always decides.
use Rattle.std.specs.Prelude.{ℕ, ◌≡◌, ◌⊎◌}
use Rattle.theory.specs.Space.{powers}
use Rattle.history.specs.Rows.{threads_used}
use Rattle.families.specs.Families.{families}
use Rattle.families.specs.declared.Object.{Object}
use Rattle.recording_meaning.specs.Models.{Model, tester_rows}
use Rattle.recording_meaning.specs.Inputs.{Inputs, feed}
use Rattle.judging.specs.declared.answer.Verdict.{Verdict}
use Rattle.judging.specs.declared.answer.Verdict.TheVariants.{NoOrder, Invalid}
use Rattle.judging.specs.Answers.{judge_of}

-- A fresh tester after the inputs l, whatever they are; and the verdict on it under the budget b.

abbrev pub fed : (M : Model) → Object → Inputs → M.Tester
fed M start l = feed M (M.new start) l

abbrev pub verdict_fed : (M : Model) → Object → Inputs → ℕ → Verdict
verdict_fed M start l b = (judge_of M (fed M start l) b).verdict

-- Refused: by No order, or as Invalid.
abbrev pub Refused : Verdict → Type 0
Refused v = (v ≡ NoOrder) ⊎ (v ≡ Invalid)

-- k + k² + … + kⁿ, for the k threads that have an operation and the n operations that len counts.
abbrev pub bound : (M : Model) → M.Tester → ℕ
bound M s = powers (threads_used families (tester_rows M s)) (M.len s)
