-- The judge's answer is the Rust's: where the budget covers the search, the order that `serialized_history` answers, or None.
use Rattle.std.specs.Prelude.{ℕ, ◌≤◌, ◌≡◌, Ok}
use Rattle.std.proofs.Math.Bool.{true, false}
use Rattle.std.proofs.Math.Option.{Option, none, some}
use Rattle.history.specs.Rows.{Rows}
use Rattle.families.specs.Families.{families}
use Rattle.families.specs.RustObjects.{ref_objects, ref_obj}
use Rattle.families.specs.declared.Object.{Object}
use Rattle.families.specs.declared.Op.{Op}
use Rattle.families.specs.declared.Ret.{Ret}
use Rattle.recording_meaning.specs.Models.{Model, tester_rows}
use Rattle.recording_meaning.specs.Inputs.{Inputs, events_in, InSizes, feed}
use Rattle.recording_meaning.specs.RustReading.{InRust, in_rust, rust_new, rust_feed}
use Rattle.judging.specs.declared.answer.Answer.{Answer}
use Rattle.judging.specs.declared.answer.Verdict.{Verdict}
use Rattle.judging.specs.declared.answer.Verdict.TheVariants.{Order, NoOrder, Undecided, Invalid}
use Rattle.judging.specs.Answers.{is_consistent, judge_of}
use Rattle.judging_meaning.specs.Serialize.{TotalOrder, Serializes, serialized_history, rust_is_consistent}
use Rattle.judging_meaning.specs.Shown.{with_operations}
use Rattle.judging_meaning.specs.RustVerdict.{rust_answer}
use Rattle.judging_meaning.specs.Judging.{order_in, needed}

-- An answer of the judge in the Rust's terms: for Order its order, with the operations; else None. The Rust has no budget, so that Undecided has no
-- counterpart there; it is not given where the budget covers the search.

abbrev pub shown_with : Verdict → TotalOrder Op Ret → Option (TotalOrder Op Ret)
shown_with Order l = some l
shown_with NoOrder l = none
shown_with Undecided l = none
shown_with Invalid l = none

abbrev pub shown_answer : Rows families → Answer → Option (TotalOrder Op Ret)
shown_answer rows a = shown_with a.verdict (with_operations families rows (order_in a))

module _ (M : Model) (R : InRust M) (S : Serializes R.keeps) where
  -- The answer is the Rust's.
  pub record JudgesAsRust : Type 0 where
    -- of a tester in shape, where the budget covers the search
    pub same_answer : (s : M.Tester) → M.Lengths s → M.shaped s ≡ true → (b : ℕ) → needed M s ≤ b
        → rust_answer M R S s ≡ shown_answer (tester_rows M s) (judge_of M s b)
    -- and so is whether it is consistent
    pub same_consistent : (s : M.Tester) → M.Lengths s → M.shaped s ≡ true → (b : ℕ) → needed M s ≤ b
        → rust_is_consistent R.keeps S ref_objects ref_obj (in_rust M R s) ≡ is_consistent (judge_of M s b).verdict
    -- of a history that is not valid both answer None, whatever the budget
    pub same_invalid : (s : M.Tester) → (M.history s).valid ≡ false → (b : ℕ)
        → (rust_answer M R S s ≡ none) × (shown_answer (tester_rows M s) (judge_of M s b) ≡ none)
    -- from inputs to the Rust's answer: within document 01's sizes, the Rust's own new tester of the start given, fed the same inputs, answers the same
    pub same_fed : (start : Object) → M.made start ≡ Ok tt → (l : Inputs) → InSizes start.kind (events_in l) → (b : ℕ)
        → needed M (feed M (M.new start) l) ≤ b
        → serialized_history R.keeps S ref_objects ref_obj (rust_feed M R (rust_new M R start) l)
        ≡ shown_answer (tester_rows M (feed M (M.new start) l)) (judge_of M (feed M (M.new start) l) b)
