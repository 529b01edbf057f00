-- The checker accepts every order that a judge gives.
use Rattle.std.specs.Prelude.{ℕ, ◌≡◌, true}
use Rattle.recording_meaning.specs.Models.{Model}
use Rattle.judging.specs.declared.answer.Verdict.TheVariants.{Order}
use Rattle.judging.specs.Answers.{judge_of}
use Rattle.witness.specs.Words.{order_words}
use Rattle.witness.specs.Checking.{check_of}
use Rattle.judging_meaning.specs.Judging.{order_in}

-- The order in an answer, as words, is one to which the checker says yes.
abbrev pub Accepts : Model → Type 0
Accepts M = (s : M.Tester) (b : ℕ) → (judge_of M s b).verdict ≡ Order → check_of M s (order_words (order_in (judge_of M s b))) ≡ true
