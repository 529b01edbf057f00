-- What both testers' calls share: an event changes the history as History's events do, and an invoke that is taken notes what history's recorder
-- keeps.
use Rattle.std.specs.Prelude.{ℕ, ◌+◌, ◌*◌, ◌<◌, ◌≡◌, refl, Bool, true, false, List, length, replicate, Result, Ok, is_ok}
use Rattle.std.proofs.Common.{sym, ◌∙◌, subst, arith}
use Rattle.std.proofs.lemmas.List.{length-replicate}
use Rattle.values.specs.Sizes.{threads, capacity}
use Rattle.values.specs.Value.{pick}
use Rattle.families.specs.declared.Object.{Object}
use Rattle.families.specs.declared.Op.{Op}
use Rattle.families.specs.declared.Ret.{Ret}
use Rattle.stepping.specs.declared.histories.History.{History}
use Rattle.stepping.specs.declared.step.Step.{Step}
use Rattle.recording.specs.declared.consistency_tester.After.{After}
use Rattle.recording.specs.declared.linearizability.LinearizabilityTester.{LinearizabilityTester}
use Rattle.recording.specs.declared.sequential_consistency.SequentialConsistencyTester.{SequentialConsistencyTester}
use Rattle.stepping.specs.Record.{fresh, invalidated, extended, completed}
use Rattle.stepping.specs.Shape.{shape_of}
use Rattle.recording.specs.Testers.{notes_shaped}
use Rattle.stepping.specs.EventSteps.{step, begun_of, invoke_of, return_of, size_of}
use Rattle.recording.specs.Calls.{in_turn, held_by}
use Rattle.recording.specs.Testers.{sequential, new_sequential, sequential_invoke, sequential_return, linearizability, notes_after, new_linearizability, linearizability_invoke, linearizability_return}
use Rattle.shape.specs.Notes.{notes_with}
use Rattle.recording_meaning.specs.Reading.{Sized, notes_of}
use Rattle.recording_meaning.specs.Beginning.{begun_is}
use Rattle.recording_meaning.specs.Parts.{pick_left, pick_right, pick_both, Parts, parts_of, of_parts}
use Rattle.recording_meaning.specs.Noting.{notes_agree, with_length, with_before, noted_rows}
use Rattle.recording_meaning.specs.NotesKeeping.{NotesParts, notes_parts, of_notes_parts, notes_extended, notes_completed}
use Rattle.recording_meaning.specs.Models.{Model, tester_rows, sequential_model, linearizability_model}
use Rattle.stepping.specs.declared.recorded.Reason.{Reason}

pub record Lawful (M : Model) : Type 1 where
  -- what holds beside the history of a tester in shape
  pub Beside : M.Tester → Type 0
  pub in_shape : (s : M.Tester) → Sized (M.history s) → Parts (M.history s) → Beside s → M.shaped s ≡ true
  pub shape_in : (s : M.Tester) → M.Lengths s → M.shaped s ≡ true → Parts (M.history s) × Beside s
  pub sized : (s : M.Tester) → M.Lengths s → Sized (M.history s)
  pub lengths : (s : M.Tester) → Sized (M.history s) → Beside s → M.Lengths s
  -- the tester after an event
  pub after_invoke : M.Tester → ℕ → Step → M.Tester
  pub after_return : M.Tester → Step → M.Tester
  -- the calls
  pub makes : (start : Object) → M.made start ≡ (begun_of start).made
  pub begins : (start : Object) → (M.history (M.new start) ≡ (begun_of start).history) × Beside (M.new start)
  pub invokes : (s : M.Tester) (t : ℕ) (op : Op) → M.on_invoke s t op
      ≡ ((invoke_of (M.shaped s) (M.history s) t op).recorded, after_invoke s t (invoke_of (M.shaped s) (M.history s) t op))
  pub returns : (s : M.Tester) (t : ℕ) (ret : Ret) → M.on_return s t ret
      ≡ ((return_of (M.shaped s) (M.history s) t ret).recorded, after_return s (return_of (M.shaped s) (M.history s) t ret))
  pub invrets : (s : M.Tester) (t : ℕ) (op : Op) (ret : Ret) → M.on_invret s t op ret
      ≡ pick (is_ok (M.on_invoke s t op).0) (M.on_return (M.on_invoke s t op).1 t ret) (M.on_invoke s t op)
  pub size : (s : M.Tester) → M.len s ≡ size_of (M.shaped s) (M.history s)
  -- the history after it, and the notes
  pub invoke_history : (s : M.Tester) (t : ℕ) (x : Step) → M.history (after_invoke s t x) ≡ x.history
  pub return_history : (s : M.Tester) (x : Step) → M.history (after_return s x) ≡ x.history
  pub invoke_refused : (s : M.Tester) (t : ℕ) (x : Step) → is_ok x.recorded ≡ false → M.needs (after_invoke s t x) ≡ M.needs s
  pub invoke_same : (s : M.Tester) (t : ℕ) (r : Result Unit Reason) → is_ok r ≡ false → after_invoke s t (step r (M.history s)) ≡ s
  pub return_same : (s : M.Tester) (r : Result Unit Reason) → after_return s (step r (M.history s)) ≡ s
  pub return_needs : (s : M.Tester) (x : Step) → M.needs (after_return s x) ≡ M.needs s
  -- an invoke that is taken: earlier notes stay, its own are those kept of the rows
  pub invoke_noted : (s : M.Tester) (t : ℕ) (op : Op) → Parts (M.history s) → Beside s → t < threads → (M.history s).count < capacity
      → (let x = after_invoke s t (step (Ok tt) (extended (M.history s) t op)) in
      ((k : ℕ) → k < (M.history s).count → M.needs x k ≡ M.needs s k) × (M.needs x (M.history s).count ≡ M.keep (tester_rows M s) t))
  -- what stands beside stays in shape
  pub invoke_beside : (s : M.Tester) (t : ℕ) (r : Result Unit Reason) → is_ok r ≡ false → Beside s → Beside (after_invoke s t (step r (invalidated (M.history s))))
  pub extended_beside : (s : M.Tester) (t : ℕ) (op : Op) → Sized (M.history s) → Beside s → t < threads → (M.history s).count < capacity
      → Beside (after_invoke s t (step (Ok tt) (extended (M.history s) t op)))
  pub return_beside : (s : M.Tester) (r : Result Unit Reason) → Beside s → Beside (after_return s (step r (invalidated (M.history s))))
  pub completed_beside : (s : M.Tester) (i t : ℕ) (ret : Ret) → Sized (M.history s) → Beside s → t < threads
      → Beside (after_return s (step (Ok tt) (completed (M.history s) i t ret)))

-- a choice, seen through a function
pick_through : {A B : Type 0} (f : A → B) (b : Bool) (x y : A) → f (pick b x y) ≡ pick b (f x) (f y)
pick_through f true x y = refl
pick_through f false x y = refl

pub sequential_lawful : Lawful sequential_model
unfolding new_sequential sequential_invoke sequential_return in_turn held_by
sequential_lawful = record {
  Beside = λ s. Unit {0};
  in_shape = λ s z w b. of_parts s.history w;
  shape_in = λ s z e. (parts_of s.history e, tt);
  sized = λ s z. z;
  lengths = λ s z b. z;
  after_invoke = λ s t x. sequential x.history;
  after_return = λ s x. sequential x.history;
  makes = λ start. refl;
  begins = λ start. (refl, tt);
  invokes = λ s t op. refl;
  returns = λ s t ret. refl;
  invrets = λ s t op ret.
      pick_through (λ (a : After SequentialConsistencyTester). (a.recorded, a.tester)) (is_ok (sequential_invoke s t op).recorded)
      (sequential_return (sequential_invoke s t op).tester t ret) (sequential_invoke s t op);
  size = λ s. refl;
  invoke_history = λ s t x. refl;
  return_history = λ s x. refl;
  invoke_refused = λ s t x e. refl;
  invoke_same = λ s t r e. refl;
  return_same = λ s r. refl;
  return_needs = λ s x. refl;
  invoke_noted = λ s t op w b l m. (λ k n. refl, refl);
  invoke_beside = λ s t r e b. tt;
  extended_beside = λ s t op z b l m. tt;
  return_beside = λ s r b. tt;
  completed_beside = λ s i t ret z b l. tt;
}

-- the linearizability tester's notes
pub record Notes (s : LinearizabilityTester) : Type 0 where
  pub many : length s.notes ≡ capacity * threads
  pub parts : NotesParts s.history s.notes

same_notes : (h : History) (notes : List ℕ) → NotesParts h notes → NotesParts (invalidated h) notes
same_notes h notes w = record { few = w.few; most = w.most }

new_notes : (start : Object) → Notes (new_linearizability start).tester
unfolding new_linearizability fresh
new_notes start = record {
  many = length-replicate {A = ℕ} (capacity * threads) 0;
  parts = subst (λ (h : History). NotesParts h (replicate (capacity * threads) 0)) (sym (begun_is start))
      (record { few = omega arith; most = λ i l. absurd (omega arith) });
}

pub linearizability_lawful : Lawful linearizability_model
unfolding new_linearizability linearizability_invoke linearizability_return in_turn held_by
linearizability_lawful = record {
  Beside = Notes;
  in_shape = λ s z w b. pick_both (notes_shaped s) (shape_of s.history) (of_notes_parts s z b.parts) (of_parts s.history w);
  shape_in = λ s z e. (
    parts_of s.history (pick_right (notes_shaped s) (shape_of s.history) e),
    record { many = z.1; parts = notes_parts s z.0 (pick_left (notes_shaped s) (shape_of s.history) e) },
  );
  sized = λ s z. z.0;
  lengths = λ s z b. (z, b.many);
  after_invoke = λ s t x. linearizability x.history (notes_after s t x);
  after_return = λ s x. linearizability x.history s.notes;
  makes = λ start. refl;
  begins = λ start. (refl, new_notes start);
  invokes = λ s t op. refl;
  returns = λ s t ret. refl;
  invrets = λ s t op ret.
      pick_through (λ (a : After LinearizabilityTester). (a.recorded, a.tester)) (is_ok (linearizability_invoke s t op).recorded)
      (linearizability_return (linearizability_invoke s t op).tester t ret) (linearizability_invoke s t op);
  size = λ s. refl;
  invoke_history = λ s t x. refl;
  return_history = λ s x. refl;
  invoke_refused = λ s t x e. rw e;
  invoke_same = λ s t r e. rw e;
  return_same = λ s r. refl;
  return_needs = λ s x. refl;
  invoke_noted = λ s t op w b l m. (
    λ k n. notes_agree s.notes (notes_with s.history.done t s.history.count s.notes threads) k b.many
        (with_length s.history.done t s.history.count s.notes threads ∙ b.many) (omega arith)
        (λ u d. with_before s.history.done t s.history.count s.notes threads (k * threads + u) (omega arith)),
    noted_rows (notes_of s.notes) s.history t s.notes w b.many m l,
  );
  invoke_beside = λ s t r e b. rw e (record { many = b.many; parts = same_notes s.history s.notes b.parts });
  extended_beside = λ s t op z b l m. record {
    many = with_length s.history.done t s.history.count s.notes threads ∙ b.many;
    parts = notes_extended s.history s.notes z b.parts t l op b.many m;
  };
  return_beside = λ s r b. record { many = b.many; parts = same_notes s.history s.notes b.parts };
  completed_beside = λ s i t ret z b l. record { many = b.many; parts = notes_completed s.history s.notes z b.parts t l i ret };
}
