-- Recording: the rows that events leave, fed one after the other from fresh.
use Rattle.std.specs.Prelude.{ℕ, suc, ◌<◌, ◌≡◌, Bool, true, false, cond, ◌||◌, List, [], ◌∷◌, ◌++◌, map, length, set, replicate}
use Rattle.std.proofs.Math.Option.{Option, none, some}
use Rattle.history.specs.Object.{Object}
use Rattle.history.specs.Events.{Events, invoked, returned}
use Rattle.history.specs.Rows.{Entry, Rows, row}

module _ (O : Object) where
  -- An operation without a return is in flight.
  abbrev pub pending : Option O.Ret → Bool
  pending none = true
  pending (some r) = false

  -- The thread has an operation in flight.
  abbrev pub flying : List (Entry O) → Bool
  flying [] = false
  flying (e ∷ r) = pending e.ret || flying r

  -- How many operations of a row are completed.
  abbrev pub completed : List (Entry O) → ℕ
  completed [] = 0
  completed (e ∷ r) = cond (pending e.ret) (completed r) (suc (completed r))

  -- The linearizable tester notes at an invocation by t, of each other thread, how many of its operations are completed.
  abbrev pub notes : Rows O → ℕ → List ℕ
  notes rows t = set (map completed rows) t 0

  -- The sequential tester notes nothing.
  abbrev pub rows_no_notes : Rows O → ℕ → List ℕ
  rows_no_notes rows t = []

  -- One more operation of thread t.
  abbrev pub extend : Rows O → ℕ → Entry O → Rows O
  extend rows t e = set rows t (row O rows t ++ (e ∷ []))

  -- The first operation in flight of a row gets its return.
  abbrev pub close_row : List (Entry O) → O.Ret → List (Entry O)
  close_row [] q = []
  close_row (e ∷ r) q = cond (pending e.ret) (record { op = e.op; ret = some q; needs = e.needs } ∷ r) (e ∷ close_row r q)

  -- Thread t's operation in flight gets its return.
  abbrev pub close : Rows O → ℕ → O.Ret → Rows O
  close rows t q = set rows t (close_row (row O rows t) q)

  module _ (keep : Rows O → ℕ → List ℕ) where
    -- An operation put in flight, with the notes that are kept of the rows then.
    abbrev pub new : Rows O → ℕ → O.Op → Entry O
    new rows t o = record { op = o; ret = none; needs = keep rows t }

    -- The events lead from rows to rows: an invocation is put in flight where its thread has none in flight, with the notes kept then; a return
    -- completes the operation that its thread has in flight.
    pub data Feeds : Rows O → Events O → Rows O → Type 0 where
      fed : {rows : Rows O} → Feeds rows [] rows
      invokes : {rows end : Rows O} {t : ℕ} {o : O.Op} {H : Events O} → t < length rows → flying (row O rows t) ≡ false
          → Feeds (extend rows t (new rows t o)) H end → Feeds rows (invoked t o ∷ H) end
      gives_back : {rows end : Rows O} {t : ℕ} {q : O.Ret} {H : Events O} → t < length rows → flying (row O rows t) ≡ true
          → Feeds (close rows t q) H end → Feeds rows (returned t q ∷ H) end

    -- Fed from fresh, with k threads.
    pub record Fed (k : ℕ) (H : Events O) (rows : Rows O) : Type 0 where
      pub from_fresh : Feeds (replicate k []) H rows
