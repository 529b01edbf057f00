-- What an attempt is, from the Rust's side: the attempts that a judge reports are the turns of the Rust's loops in which the thread still has an
-- operation to place, and under a budget the first so many of them.
use Rattle.std.specs.Prelude.{ℕ, ◌<◌, min, ◌≡◌, ◌↔◌, true}
use Rattle.families.specs.RustObjects.{ref_objects, ref_obj}
use Rattle.recording_meaning.specs.Models.{Model}
use Rattle.recording_meaning.specs.RustReading.{InRust, RustTester, StandsFor}
use Rattle.judging.specs.declared.answer.Verdict.TheVariants.{Undecided}
use Rattle.judging.specs.Answers.{judge_of}
use Rattle.judging_meaning.specs.Serialize.{Serializes, search_history}
use Rattle.judging_meaning.specs.Judging.{needed}
use Rattle.judging_meaning.specs.RustVerdict.{rust_turns}

module _ (M : Model) (R : InRust M) (S : Serializes R.keeps) where
  -- A judge's attempts are the Rust's turns.
  pub record CountsTurns : Type 0 where
    -- without a budget, of a valid history: as many as the Rust makes
    pub needed_turns : (s : M.Tester) → M.Lengths s → M.shaped s ≡ true → (M.history s).valid ≡ true → needed M s ≡ rust_turns M R S s
    -- under the budget b, of any tester in shape: the first b of them, or all
    pub attempts_turns : (s : M.Tester) → M.Lengths s → M.shaped s ≡ true → (b : ℕ) → (judge_of M s b).attempts ≡ min b (rust_turns M R S s)
    -- Undecided exactly where the Rust makes more than b
    pub undecided_turns : (s : M.Tester) → M.Lengths s → M.shaped s ≡ true → (b : ℕ) → ((judge_of M s b).verdict ≡ Undecided) ↔ (b < rust_turns M R S s)
    -- and so of any tester of the Rust that stands for it, as after the same inputs
    pub stands_turns : (s : M.Tester) {T : RustTester M R} → StandsFor M R s T → M.Lengths s → M.shaped s ≡ true
        → (b : ℕ) → (judge_of M s b).attempts ≡ min b (search_history R.keeps S ref_objects ref_obj T).turns
