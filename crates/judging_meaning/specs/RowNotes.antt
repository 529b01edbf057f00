-- The notes of the rows that a tester in shape reads as are in shape, and the sequential tester's rows have none.
use Rattle.std.specs.Prelude.{ℕ, ◌*◌, ◌<◌, ◌≤◌, ◌≡◌, refl, Bool, true, false, List, get_or, drop, ltb}
use Rattle.std.proofs.Common.{sym, ap, ◌∙◌, subst, length-take, ltb-true, ltb-false, arith}
use Rattle.std.proofs.Math.ListN.{get_or-eq_default}
use Rattle.history.specs.Rows.{Entry, row, Is}
use Rattle.history.specs.Recorder.{completed}
use Rattle.values.specs.Sizes.{threads}
use Rattle.families.specs.Families.{families}
use Rattle.recording.specs.declared.linearizability.LinearizabilityTester.{LinearizabilityTester}
use Rattle.recording.specs.declared.sequential_consistency.SequentialConsistencyTester.{SequentialConsistencyTester}
use Rattle.stepping.specs.Record.{operation_at}
use Rattle.stepping.specs.Shape.{InShape, NotesInShape, note_at}
use Rattle.recording_meaning.specs.Reading.{notes_of}
use Rattle.recording_meaning.specs.Models.{tester_rows, sequential_model, linearizability_model}
use Rattle.recording_meaning.specs.Shaping.{rows_done}
use Rattle.recording_meaning.specs.Noting.{note_in}
use Rattle.recording_meaning.specs.ShapeExactly.{tester_exactly}
use Rattle.recording_meaning.specs.Lawful.{linearizability_lawful}
use Rattle.judging_meaning.specs.Violations.{Noteless, NotesFit}
use Rattle.judging_meaning.specs.RowRecord.{in_record}

pub sequential_noteless : (s : SequentialConsistencyTester) → Noteless families (tester_rows sequential_model s)
sequential_noteless s t k e is = (in_record (sequential_model.needs s) s.history t k e is).3

-- an operation notes nothing of threads that there are not
no_more : (notes : List ℕ) (i u : ℕ) → threads ≤ u → get_or (notes_of notes i) u 0 ≡ 0
unfolding notes_of
no_more notes i u l = get_or-eq_default (notes_of notes i) 0 (omega (arith, length-take threads (drop (i * threads) notes)))

pub linearizability_fits : (s : LinearizabilityTester) → linearizability_model.Lengths s → linearizability_model.shaped s ≡ true
    → NotesFit families (tester_rows linearizability_model s)
linearizability_fits s z e = record { own = own; most = most }
  where
    shape : InShape s.history × NotesInShape s.history s.notes
    shape = (tester_exactly s z.0).1 e

    own : (t k : ℕ) (x : Entry families) → Is families (tester_rows linearizability_model s) t k x → get_or x.needs t 0 ≡ 0
    own t k x is =
        let w = in_record (linearizability_model.needs s) s.history t k x is in
        ap (λ (l : List ℕ). get_or l t 0) w.3
        ∙ note_in s.notes w.0 t (subst (λ (u : ℕ). u < threads) w.2 (shape.0.known w.0 w.1))
        ∙ ap (note_at s.notes w.0) (sym w.2)
        ∙ shape.1.not_own w.0 w.1

    most : (t k : ℕ) (x : Entry families) → Is families (tester_rows linearizability_model s) t k x
        → (u : ℕ) → get_or x.needs u 0 ≤ completed families (row families (tester_rows linearizability_model s) u)
    most t k x is u = go (ltb u threads) refl
      where
        w : (i : ℕ) × (i < s.history.count) × ((operation_at s.history i).thread ≡ t) × (x.needs ≡ notes_of s.notes i) × (x.op ≡ (operation_at s.history i).op)
        w = in_record (linearizability_model.needs s) s.history t k x is

        same : get_or x.needs u 0 ≡ get_or (notes_of s.notes w.0) u 0
        same = ap (λ (l : List ℕ). get_or l u 0) w.3

        go : (b : Bool) → ltb u threads ≡ b → get_or x.needs u 0 ≤ completed families (row families (tester_rows linearizability_model s) u)
        go true y =
            let l = ltb-true u threads y in
            omega (
              arith,
              same,
              note_in s.notes w.0 u l,
              shape.1.completed w.0 w.1 u l,
              rows_done (linearizability_model.needs s) s.history (linearizability_lawful.shape_in s z e).0 u l,
            )
        go false y = omega (arith, same, no_more s.notes w.0 u (ltb-false u threads y))
