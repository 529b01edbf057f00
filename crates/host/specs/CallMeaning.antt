-- What the host call's answer says of a file.
use Rattle.std.specs.Prelude.{ℕ, ◌+◌, ◌-◌, ◌*◌, ◌<◌, ◌≤◌, ◌≡◌, ◌≢◌, ◌↔◌, List, [], ◌∷◌, ◌++◌, length, drop, replicate}
use Rattle.values.specs.Sizes.{capacity}
use Rattle.recording_meaning.specs.Models.{Model}
use Rattle.judging.specs.declared.answer.Answer.{Answer}
use Rattle.judging.specs.declared.answer.Verdict.TheVariants.{Order, NoOrder, Undecided, Invalid}
use Rattle.judging.specs.Answers.{judge_of}
use Rattle.corpus.specs.Load.{load_of}
use Rattle.host.specs.declared.report.Report.{Report}
use Rattle.host.specs.Call.{threads_of, report_of, bytes_of, answer_size, model_of, call_number, call_answer}
use Rattle.host.specs.Loads.{Breaking}

module _ (M : Model) (file : List ℕ) (budget : ℕ) where
  -- What the judge answers of the tester that is loaded.
  abbrev pub judged_of : Answer
  judged_of = judge_of M (load_of M file).tester budget

  -- What a report says: what the judge answers of the tester that is loaded, or why loading stopped.
  pub record Says (r : Report) : Type 0 where
    -- 0, 1 and 2: nothing is refused, and the judge says Order, No order, Undecided
    pub order_exactly : (r.verdict ≡ 0) ↔ (((load_of M file).number ≡ 0) × (judged_of.verdict ≡ Order))
    pub no_order_exactly : (r.verdict ≡ 1) ↔ (((load_of M file).number ≡ 0) × (judged_of.verdict ≡ NoOrder))
    pub undecided_exactly : (r.verdict ≡ 2) ↔ (((load_of M file).number ≡ 0) × (judged_of.verdict ≡ Undecided))
    -- 3: refusal 4 or 5; then the judge says Invalid of the tester as it stands
    pub invalid_exactly : (r.verdict ≡ 3) ↔ Breaking (load_of M file).number
    pub invalid_judged : r.verdict ≡ 3 → judged_of.verdict ≡ Invalid
    -- 4: any other refusal
    pub refused_exactly : (r.verdict ≡ 4) ↔ (((load_of M file).number ≢ 0) × (Breaking (load_of M file).number → ⊥))
    -- refusal number and place are those of loading
    pub number_is : r.number ≡ (load_of M file).number
    pub place_is : r.place ≡ (load_of M file).place
    -- without refusal attempts and order are the judge's
    pub attempts_is : (load_of M file).number ≡ 0 → r.attempts ≡ judged_of.attempts
    pub length_is : (load_of M file).number ≡ 0 → r.length ≡ judged_of.length
    pub threads_is : (load_of M file).number ≡ 0 → r.threads ≡ threads_of judged_of.order
    -- after a refusal there are no attempts
    pub refused_attempts : (load_of M file).number ≢ 0 → r.attempts ≡ 0
    -- without Order the length is 0
    pub no_length : r.verdict ≢ 0 → r.length ≡ 0
    -- thread numbers are 255 where unused
    pub unused_is : drop r.length r.threads ≡ replicate (capacity - r.length) 255

-- The call, whatever it is given.
pub record Calls (file : List ℕ) (model budget : ℕ) (answer : List ℕ) : Type 0 where
  -- each number exactly under its condition
  pub short : length answer < answer_size → call_number model answer ≡ 10
  pub stranger : answer_size ≤ length answer → 1 < model → call_number model answer ≡ 11
  pub done : answer_size ≤ length answer → model ≤ 1 → call_number model answer ≡ 0
  -- nothing is written for any but 0
  pub untouched : call_number model answer ≢ 0 → call_answer file model budget answer ≡ answer
  -- on 0 the first bytes become those of what is said, and the others keep their contents
  pub answered : call_number model answer ≡ 0
      → call_answer file model budget answer ≡ bytes_of (report_of (model_of model) file budget) ++ drop answer_size answer
  pub said : Says (model_of model) file budget (report_of (model_of model) file budget)

-- The number that bytes say, lowest first.
abbrev pub sum : List ℕ → ℕ
sum [] = 0
sum (b ∷ l) = sum l * 256 + b
