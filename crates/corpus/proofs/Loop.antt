-- The loader's loop: what is left of the file comes to what the whole does, and the tester in hand stands as recording in place needs it.
use Rattle.std.proofs.Common.{ℕ, ◌+◌, ◌<◌, ◌≤◌, ◌≡◌, refl, sym, ap, ◌∙◌, Bool, true, List, Option, None, Result, length, drop, replicate}
use Rattle.std.proofs.Math.ListN.{get_or}
use Rattle.std.specs.Prelude.{set, is_ok}
use Rattle.values.specs.Sizes.{threads, capacity}
use Rattle.families.specs.declared.Kind.{Kind}
use Rattle.families.specs.declared.event.Event.{Event as CEvent}
use Rattle.stepping.specs.declared.histories.History.{History}
use Rattle.recording.specs.declared.linearizability.LinearizabilityTester.{LinearizabilityTester}
use Rattle.stepping.specs.declared.step.Change.{Change}
use Rattle.stepping.specs.Record.{operation_at}
use Rattle.recording.specs.Testers.{linearizability}
use Rattle.stepping.specs.OneStep.{thread_of, change_of, changed}
use Rattle.recording_meaning.specs.Models.{linearizability_model}
use Rattle.corpus.specs.declared.turns.Taken.{Taken}
use Rattle.corpus.specs.declared.turns.Stopped.{Stopped}
use Rattle.format.specs.Format.{event}
use Rattle.format.specs.ReadAnswers.{heard}
use Rattle.corpus.specs.Load.{Load, load, load_from}
use Rattle.corpus.specs.LoaderTurns.{comes_by, stopped_with, taken_at, turn_of, noted_by, Fresh}
use Rattle.corpus.proofs.Loading.{Running, running, all_loaded, stopped, behind, refused_by_lem, recorded}
use Rattle.stepping.specs.Drawn.{taken_number, refused_number}
use Rattle.corpus.proofs.InPlace.{Standing, standing_new, event_fits, event_taken, event_refused, event_stands}
use Rattle.corpus.proofs.Turning.{Taking, Stopping, unread, unrecorded, stops, takes}

pub record Feeding (k : Kind) (s : List ℕ) (whole : Load linearizability_model) (h : History) (notes : List ℕ) (flying : List (Option ℕ)) (at : ℕ) : Type 0 where
  pub runs : Running linearizability_model k s whole at (linearizability h notes)
  pub stands : Standing h notes flying k

pub feeding_new : {k : Kind} (s : List ℕ) (first : ℕ) (t : LinearizabilityTester) → Fresh k t
    → Feeding k s (load_from linearizability_model (length s) k (drop first s) first t) t.history t.notes (replicate threads None) first
feeding_new {k} s first t w = record {
  runs = running linearizability_model k s first t;
  stands = rw w.new (standing_new w.start k w.of_kind w.clear);
}

module _ {k : Kind} {s : List ℕ} {whole : Load linearizability_model} {h : History} {notes : List ℕ} {flying : List (Option ℕ)} {at : ℕ}
    (F : Feeding k s whole h notes flying at) where
  pub feeding_ended : length s ≤ at → load linearizability_model 0 0 (linearizability h notes) ≡ whole
  feeding_ended l = all_loaded linearizability_model k s F.runs l

  -- a turn of the loop
  module _ (more : at < length s) {turn : Result Taken Stopped} (told : turn ≡ turn_of flying k h.count (event k (drop at s))) where
    abbrev pub off : Bool → LinearizabilityTester
    off b = linearizability (record { start = h.start; ops = h.ops; count = h.count; done = h.done; valid = b }) notes

    pub feeding_stopped : {n : ℕ} {b : Bool} → turn ≡ stopped_with n b → load linearizability_model n at (off b) ≡ whole
    feeding_stopped {n} {b} y = go (stops flying k h.count (event k (drop at s)) (sym y ∙ told))
      where
        go : Stopping flying k h.count (event k (drop at s)) n b → load linearizability_model n at (off b) ≡ whole
        go (unread why e z q) =
            ap (λ (b : Bool). load linearizability_model n at (off b)) (q ∙ sym F.stands.valid)
            ∙ stopped linearizability_model k s F.runs more why e n z
        go (unrecorded v used e d z q) =
            let r = comes_by flying k h.count v in
            let w = event_refused h notes flying k F.stands v r refl (refused_number r d) b q in
            refused_by_lem linearizability_model k s F.runs more (heard v) used e r (off b) n w.0 w.1 z (λ y. d (sym z ∙ y))

    module _ {v : CEvent} {i used : ℕ} (y : turn ≡ taken_at v i used) where
      w : Taking flying k h.count (event k (drop at s)) v i used
      w = takes flying k h.count (event k (drop at s)) (sym y ∙ told)

      taken : is_ok (comes_by flying k h.count v) ≡ true
      taken = taken_number _ w.drawn

      -- the place behind it
      pub taken_further : (at < at + used) × (at + used ≤ length s)
      taken_further = behind linearizability_model k s F.runs more _ _ w.read

      pub taken_fits : (thread_of v < threads) × (i < capacity)
      taken_fits = let f = event_fits h notes flying k F.stands v _ refl taken in (f.known, rw w.placed f.room)

      pub feeding_taken : {t : ℕ} {c : Change} {notes₁ : List ℕ} → t ≡ thread_of v
          → c ≡ change_of v (operation_at h i) i h.count (get_or h.done t 0)
          → notes₁ ≡ noted_by c.mark h.done c.operation.thread i notes
          → Feeding k s whole (changed h i t c) notes₁ (set flying t c.mark) (at + used)
      feeding_taken p z q =
          let g = event_taken h notes flying k F.stands v _ refl taken in
          rw (q, z, w.placed, p)
          (record {
            runs = recorded linearizability_model k s F.runs more _ _ w.read _ _ _ g.0 g.1 refl w.drawn;
            stands = event_stands h notes flying k F.stands v _ refl taken;
          })
