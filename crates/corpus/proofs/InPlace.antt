-- Recording in place: what the loader does with an event is what the tester's call does.
use Rattle.std.proofs.Common.{ℕ, ◌≡◌, refl, sym, ap, ◌∙◌, subst, Bool, true, false, List, length, replicate, length-set, Option, Some, None, Result, Ok}
use Rattle.std.specs.Prelude.{set, is_ok}
use Rattle.std.proofs.lemmas.List.{length-replicate}
use Rattle.values.specs.Value.{pick}
use Rattle.values.specs.Sizes.{threads}
use Rattle.families.specs.Refusals.{start_check}
use Rattle.families.specs.declared.Kind.{Kind}
use Rattle.families.specs.declared.Object.{Object}
use Rattle.families.specs.declared.event.Event.{Event as CEvent}
use Rattle.families.specs.declared.event.Event.TheVariants.{Invoked, Returned}
use Rattle.stepping.specs.declared.histories.History.{History}
use Rattle.recording.specs.declared.linearizability.LinearizabilityTester.{LinearizabilityTester}
use Rattle.recording.specs.declared.consistency_tester.After.{After}
use Rattle.stepping.specs.declared.step.Step.{Step}
use Rattle.stepping.specs.declared.step.Change.{Change}
use Rattle.stepping.specs.Record.{fresh}
use Rattle.stepping.specs.Shape.{kind_of}
use Rattle.recording.specs.Testers.{notes_shaped}
use Rattle.stepping.specs.EventSteps.{valid_after, step}
use Rattle.recording.specs.Testers.{linearizability, shaped_tester, linearizability_after, invoked_by, linearizability_invoke, linearizability_return}
use Rattle.shape.specs.Notes.{notes_with}
use Rattle.shape.proofs.NotesLaws.{noted_in}
use Rattle.stepping.specs.StepChecks.{Known, place_in, place_at}
use Rattle.stepping.specs.OneStep.{event_of, thread_of, comes_to, place_for, changed, change_at, change_invoked, change_returned, thread_invoked, mark_invoked, mark_returned}
use Rattle.stepping.specs.Admitting.{Fits}
use Rattle.stepping.proofs.Admitting as admitting
use Rattle.recording_meaning.specs.Models.{linearizability_model}
use Rattle.recording_meaning.specs.Inputs.{as_input}
use Rattle.recording_meaning.specs.Beginning.{begun_clear}
use Rattle.recording_meaning.specs.Lawful.{linearizability_lawful}
use Rattle.recording_meaning.specs.EventTurns.{Good, good_shaped}
use Rattle.recording_meaning.specs.Reaching.{good_new}
use Rattle.recording_meaning.proofs.TesterFeeding.{good_give, new_valid}
use Rattle.recording_meaning.specs.Marks.{Marks, marks_fresh, marks_extended, marks_completed}
use Rattle.format.specs.ReadAnswers.{heard}
use Rattle.corpus.specs.Load.{record_event}
use Rattle.corpus.specs.LoaderTurns.{comes_by, noted_by}
use Rattle.stepping.specs.declared.recorded.Reason.{Reason}

-- The tester that the loader has in hand: in shape, valid and of an object k, with the marks of what is in flight.
pub record Standing (h : History) (notes : List ℕ) (flying : List (Option ℕ)) (k : Kind) : Type 0 where
  pub good : Good linearizability_model linearizability_lawful (linearizability h notes)
  pub valid : h.valid ≡ true
  pub own : k ≡ kind_of h
  pub long : length flying ≡ threads
  pub marks : Marks flying h

pub standing_new : (start : Object) (k : Kind) → k ≡ start.kind → start_check start.kind ≡ Ok tt
    → Standing (linearizability_model.new start).history (linearizability_model.new start).notes (replicate threads None) k
unfolding fresh
standing_new start k q clear =
    let e : (linearizability_model.new start).history ≡ fresh start = (linearizability_lawful.begins start).0 ∙ begun_clear start clear in
    record {
      good = good_new linearizability_model linearizability_lawful start;
      valid = new_valid linearizability_model linearizability_lawful start;
      own = q ∙ ap kind_of (sym e);
      long = length-replicate {A = Option ℕ} threads None;
      marks = subst (Marks (replicate threads None)) (sym e) (marks_fresh start);
    }

module _ (h : History) (notes : List ℕ) (flying : List (Option ℕ)) (k : Kind) (S : Standing h notes flying k) where
  abbrev s : LinearizabilityTester
  s = linearizability h notes

  looked : Known (shaped_tester s) h true flying
  looked = record {
    ok_is = sym (good_shaped linearizability_model linearizability_lawful s S.good);
    places = λ _ t l. S.marks t l;
  }

  abbrev off : Bool → History
  off b = record { start = h.start; ops = h.ops; count = h.count; done = h.done; valid = b }

  -- what the loader stores for an event: its place, its change, and the history and notes that these leave

  abbrev place : CEvent → ℕ
  place v = place_for v flying h.count

  abbrev change : CEvent → Change
  change v = change_at h v (place v)

  abbrev next : CEvent → History
  next v = changed h (place v) (thread_of v) (change v)

  abbrev noted : CEvent → List ℕ
  noted v = noted_by (change v).mark h.done (change v).operation.thread (place v) notes

  -- what the tester's own call hands back, from the step of recording
  abbrev handed : CEvent → Step → After LinearizabilityTester
  handed (Invoked t op) p = invoked_by s t p
  handed (Returned t ret) p = linearizability_after p notes

  called : (v : CEvent) (a : After LinearizabilityTester) → a ≡ handed v (event_of (shaped_tester s) h v)
      → (a.recorded ≡ (record_event linearizability_model s (heard v)).0) × (a.tester ≡ (record_event linearizability_model s (heard v)).1)
  unfolding linearizability_invoke linearizability_return
  called (Invoked t op) a e = (ap (λ (x : After LinearizabilityTester). x.recorded) e, ap (λ (x : After LinearizabilityTester). x.tester) e)
  called (Returned t ret) a e = (ap (λ (x : After LinearizabilityTester). x.recorded) e, ap (λ (x : After LinearizabilityTester). x.tester) e)

  -- the notes: written for an invocation that is taken, and else kept

  handed_refused : (v : CEvent) (r : Result Unit Reason) (g : History) → is_ok r ≡ false → linearizability_after (step r g) notes ≡ handed v (step r g)
  handed_refused (Invoked t op) r g y =
      ap (linearizability_after (step r g)) (sym (ap (λ (b : Bool). pick b (notes_with h.done t h.count notes threads) notes) y))
  handed_refused (Returned t ret) r g y = refl

  handed_taken : (v : CEvent) (r : Result Unit Reason) (g : History) → is_ok r ≡ true → Fits h v (place v)
      → linearizability_after (step r g) (noted v) ≡ handed v (step r g)
  unfolding place_for thread_of noted_by
  handed_taken (Invoked t op) r g y w =
      ap (linearizability_after (step r g))
      (rw (mark_invoked h t op h.count, thread_invoked h t op h.count w.known)
      (noted_in h.done t h.count notes w.room)
      ∙ sym (ap (λ (b : Bool). pick b (notes_with h.done t h.count notes threads) notes) y))
  handed_taken (Returned t ret) r g y w =
      ap (linearizability_after (step r g)) (rw (mark_returned h t ret (place_at (place_in flying t))) refl)

  marks_kept : (v : CEvent) → Fits h v (place v) → Marks (set flying (thread_of v) (change v).mark) (next v)
  unfolding place_for thread_of
  marks_kept (Invoked t op) w =
      subst (λ (m : Option ℕ). Marks (set flying t m) (next (Invoked t op))) (sym (mark_invoked h t op h.count))
      (subst (Marks (set flying t (Some h.count))) (sym (change_invoked h t op w.known w.room))
      (marks_extended h flying S.long S.marks t w.known op S.good.sized w.room w.found))
  marks_kept (Returned t ret) w =
      subst (λ (m : Option ℕ). Marks (set flying t m) (next (Returned t ret))) (sym (mark_returned h t ret (place_at (place_in flying t))))
      (subst (Marks (set flying t None)) (sym (change_returned h (place_at (place_in flying t)) t ret w.few))
      (marks_completed h flying S.long S.marks t w.known ret S.good.parts.last w.found))

  module _ (v : CEvent) (r : Result Unit Reason) (e : r ≡ comes_by flying k h.count v) where
    came : r ≡ comes_to true h.valid (kind_of h) flying h.count v
    came =
        e
        ∙ ap (λ (b : Bool). comes_to true b k flying h.count v) (sym S.valid)
        ∙ ap (λ (l : Kind). comes_to true h.valid l flying h.count v) S.own

    pub event_fits : is_ok r ≡ true → Fits h v (place_for v flying h.count)
    event_fits y = admitting.event_fits (notes_shaped s) h true flying looked v r came y

    pub event_taken : is_ok r ≡ true
        → (r ≡ (record_event linearizability_model (linearizability h notes) (heard v)).0)
        × (linearizability (next v) (noted v) ≡ (record_event linearizability_model (linearizability h notes) (heard v)).1)
    event_taken y =
        called v (linearizability_after (step r (next v)) (noted v))
        (handed_taken v r (next v) y (event_fits y)
        ∙ ap (handed v) (admitting.event_taken (notes_shaped s) h true flying looked v r came y (place v) (thread_of v) (change v) refl refl refl))

    -- a refusal leaves all but the validity
    pub event_refused : is_ok r ≡ false → (b : Bool) → b ≡ valid_after true r
        → (r ≡ (record_event linearizability_model (linearizability h notes) (heard v)).0)
        × (linearizability (record { start = h.start; ops = h.ops; count = h.count; done = h.done; valid = b }) notes
        ≡ (record_event linearizability_model (linearizability h notes) (heard v)).1)
    event_refused y b q =
        called v (linearizability_after (step r (off b)) notes)
        (handed_refused v r (off b) y
        ∙ ap (handed v)
        (admitting.event_refused (notes_shaped s) h true flying looked v r came y b (q ∙ ap (λ (b : Bool). valid_after b r) (sym S.valid))))

    pub event_stands : is_ok r ≡ true → Standing (next v) (noted v) (set flying (thread_of v) (change v).mark) k
    event_stands y = record {
      good = subst (Good linearizability_model linearizability_lawful) (sym (event_taken y).1)
          (good_give linearizability_model linearizability_lawful s S.good (as_input (heard v)));
      valid = S.valid;
      own = S.own;
      long = length-set flying (thread_of v) _ ∙ S.long;
      marks = marks_kept v (event_fits y);
    }
