-- The two testers side by side: what each reads as, and its public calls, so that what they share is said once.
use Rattle.std.specs.Prelude.{ℕ, ◌*◌, ◌≡◌, Bool, true, List, length, Result}
use Rattle.history.specs.Rows.{Rows}
use Rattle.history.specs.Recorder.{notes, rows_no_notes}
use Rattle.values.specs.Sizes.{threads, capacity}
use Rattle.families.specs.Families.{families}
use Rattle.families.specs.declared.Object.{Object}
use Rattle.families.specs.declared.Op.{Op}
use Rattle.families.specs.declared.Ret.{Ret}
use Rattle.stepping.specs.declared.histories.History.{History}
use Rattle.recording.specs.declared.linearizability.LinearizabilityTester.{LinearizabilityTester}
use Rattle.recording.specs.declared.sequential_consistency.SequentialConsistencyTester.{SequentialConsistencyTester}
use Rattle.stepping.specs.Shape.{shaped_with}
use Rattle.recording.specs.Testers.{new_sequential, sequential_invoke, sequential_return, sequential_invret, sequential_len, shaped_tester, new_linearizability, linearizability_invoke, linearizability_return, linearizability_invret, linearizability_len}
use Rattle.recording_meaning.specs.Reading.{Sized, rows_of, no_notes, notes_of}
use Rattle.values.specs.declared.refusal.Refusal.{Refusal}
use Rattle.stepping.specs.declared.recorded.Reason.{Reason}

-- A tester, and what its calls answer and leave.
pub record Model : Type 1 where
  pub Tester : Type 0
  pub history : Tester → History
  -- the lengths of its arrays: every record of the code has them
  pub Lengths : Tester → Type 0
  -- the notes of the operation at a place
  pub needs : Tester → ℕ → List ℕ
  -- what history's recorder keeps of rows at an invocation
  pub keep : Rows families → ℕ → List ℕ
  -- in shape: not number 9
  pub shaped : Tester → Bool
  pub made : Object → Result Unit Refusal
  pub new : Object → Tester
  pub on_invoke : Tester → ℕ → Op → Result Unit Reason × Tester
  pub on_return : Tester → ℕ → Ret → Result Unit Reason × Tester
  pub on_invret : Tester → ℕ → Op → Ret → Result Unit Reason × Tester
  pub len : Tester → ℕ

-- The rows that a tester reads as.
abbrev pub tester_rows : (M : Model) → M.Tester → Rows families
tester_rows M s = rows_of (M.needs s) (M.history s)

-- A tester that constructors and calls make.
pub data Reached (M : Model) : M.Tester → Type 0 where
  made : (start : Object) → Reached M (M.new start)
  invoked : {s : M.Tester} (t : ℕ) (op : Op) → Reached M s → Reached M (M.on_invoke s t op).1
  returned : {s : M.Tester} (t : ℕ) (ret : Ret) → Reached M s → Reached M (M.on_return s t ret).1
  invretted : {s : M.Tester} (t : ℕ) (op : Op) (ret : Ret) → Reached M s → Reached M (M.on_invret s t op ret).1

abbrev pub sequential_model : Model
sequential_model = record {
  Tester = SequentialConsistencyTester;
  history = λ s. s.history;
  Lengths = λ s. Sized s.history;
  needs = λ s. no_notes;
  keep = rows_no_notes families;
  shaped = λ s. shaped_with true s.history;
  made = λ start. (new_sequential start).made;
  new = λ start. (new_sequential start).tester;
  on_invoke = λ s t op. ((sequential_invoke s t op).recorded, (sequential_invoke s t op).tester);
  on_return = λ s t ret. ((sequential_return s t ret).recorded, (sequential_return s t ret).tester);
  on_invret = λ s t op ret. ((sequential_invret s t op ret).recorded, (sequential_invret s t op ret).tester);
  len = sequential_len;
}

abbrev pub linearizability_model : Model
linearizability_model = record {
  Tester = LinearizabilityTester;
  history = λ s. s.history;
  Lengths = λ s. Sized s.history × (length s.notes ≡ capacity * threads);
  needs = λ s. notes_of s.notes;
  keep = notes families;
  shaped = shaped_tester;
  made = λ start. (new_linearizability start).made;
  new = λ start. (new_linearizability start).tester;
  on_invoke = λ s t op. ((linearizability_invoke s t op).recorded, (linearizability_invoke s t op).tester);
  on_return = λ s t ret. ((linearizability_return s t ret).recorded, (linearizability_return s t ret).tester);
  on_invret = λ s t op ret. ((linearizability_invret s t op ret).recorded, (linearizability_invret s t op ret).tester);
  len = linearizability_len;
}
