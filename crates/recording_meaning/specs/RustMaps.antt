-- What rows are in the Rust's maps: a thread has an entry in history_by_thread once it has an operation, with its completed ones, and an entry in
-- in_flight_by_thread while it has one in flight.
use Rattle.std.specs.Prelude.{ℕ, zero, suc, Bool, List, [], ◌∷◌}
use Rattle.std.proofs.Math.Option.{Option, none, some}
use Rattle.history.specs.Object.{Object}
use Rattle.history.specs.Rows.{Entry, Rows}
use Rattle.recording_meaning.specs.Rust.{Map, Keeps, Tester, linearizable, sequential}

-- An entry, where there is one, before the rest.
abbrev pub entry : {B : Type 0} → ℕ → Option B → Map B → Map B
entry k none m = m
entry k (some b) m = (k, b) ∷ m

-- A list as a map: what stands at a place, where it says something, is the entry of that place's number; the first place has the number k.
abbrev pub tabled : {A B : Type 0} → (A → Option B) → ℕ → List A → Map B
tabled f k [] = []
tabled f k (a ∷ l) = entry k (f a) (tabled f (suc k) l)

module _ (O : Object) where
  -- A note of n says that the last completed one has the index n - 1, and a note of 0 that there is none.
  abbrev pub index : ℕ → Option ℕ
  index zero = none
  index (suc n) = some n

  -- What the Rust's linearizability tester holds of an operation with notes, and what its sequential one does.
  abbrev pub with_notes : O.Op → List ℕ → (linearizable O.Op O.Ret).InFlight
  with_notes op needs = (tabled index 0 needs, op)

  abbrev pub without_notes : O.Op → List ℕ → (sequential O.Op O.Ret).InFlight
  without_notes op needs = op

  module _ (K : Keeps O.Op O.Ret) (flight : O.Op → List ℕ → K.InFlight) where
    -- The completed operations of a row.

    abbrev pub with_complete : Entry O → Option O.Ret → List K.Complete → List K.Complete
    with_complete e none cs = cs
    with_complete e (some q) cs = K.completed (flight e.op e.needs) q ∷ cs

    abbrev pub completes : List (Entry O) → List K.Complete
    completes [] = []
    completes (e ∷ r) = with_complete e e.ret (completes r)

    -- A thread's entry in history_by_thread.
    abbrev pub history_entry : List (Entry O) → Option (List K.Complete)
    history_entry [] = none
    history_entry (e ∷ r) = some (completes (e ∷ r))

    -- A thread's entry in in_flight_by_thread.

    abbrev pub or_flight : Entry O → Option O.Ret → Option K.InFlight → Option K.InFlight
    or_flight e none later = some (flight e.op e.needs)
    or_flight e (some q) later = later

    abbrev pub flight_entry : List (Entry O) → Option K.InFlight
    flight_entry [] = none
    flight_entry (e ∷ r) = or_flight e e.ret (flight_entry r)

    -- The Rust's tester of an initial object, rows and validity.
    abbrev pub in_maps : {Start : Type 0} → Start → Rows O → Bool → Tester O.Op O.Ret Start K
    in_maps start rows valid = record {
      init_ref_obj = start;
      history_by_thread = tabled history_entry 0 rows;
      in_flight_by_thread = tabled flight_entry 0 rows;
      is_valid_history = valid;
    }
