-- What is asked of a tester's way to serialize, and when the notes of rows are in shape.
use Rattle.std.specs.Prelude.{ℕ, ◌≤◌, ◌≡◌, not, List, [], length, get_or}
use Rattle.std.proofs.Math.Option.{some}
use Rattle.history.specs.Object.{Object}
use Rattle.history.specs.Rows.{Entry, Rows, row, Is}
use Rattle.history.specs.Recorder.{completed}
use Rattle.history.specs.Space.{next, more, met}
use Rattle.recording_meaning.specs.Rust.{Keeps}
use Rattle.judging_meaning.specs.Serialize.{Serializes}
use Rattle.judging_meaning.specs.Remaining.{queues_at}

-- What is asked of a tester's way to serialize, of those rows.
module _ (O : Object) (K : Keeps O.Op O.Ret) (flight : O.Op → List ℕ → K.InFlight) (S : Serializes K) (rows : Rows O) where
  pub record Agrees : Type 0 where
    -- what is popped is what was completed
    pub pops : (i : ℕ) (op : O.Op) (needs : List ℕ) (q : O.Ret) → S.popped (S.queued i (K.completed (flight op needs) q)) ≡ (flight op needs, q)
    pub operates : (op : O.Op) (needs : List ℕ) → S.operation (flight op needs) ≡ op
    -- an operation is in violation exactly if not as many are placed as it notes
    pub violates : (ps : List ℕ) (t : ℕ) (e : Entry O) → length ps ≡ length rows → next rows ps t ≡ some e
        → S.violation (flight e.op e.needs) (queues_at O K flight S rows (more ps t)) ≡ not (met e.needs ps)

module _ (O : Object) (rows : Rows O) where
  -- No operation has notes.
  abbrev pub Noteless : Type 0
  Noteless = (t k : ℕ) (e : Entry O) → Is O rows t k e → e.needs ≡ []

  -- Notes in shape: an operation notes nothing of its own thread, and of each thread at most as many as it has completed.
  pub record NotesFit : Type 0 where
    pub own : (t k : ℕ) (e : Entry O) → Is O rows t k e → get_or e.needs t 0 ≡ 0
    pub most : (t k : ℕ) (e : Entry O) → Is O rows t k e → (u : ℕ) → get_or e.needs u 0 ≤ completed O (row O rows u)
