-- The recording halves of the Rust, transcribed on lists: stateright 0.31.0, src/semantics/linearizability.rs, sequential_consistency.rs and, for
-- on_invret, consistency_tester.rs. Definitions only. The texts of errors are left out; the entry that making one of them adds is not.
use Rattle.std.specs.Prelude.{ℕ, ◌+◌, Bool, true, false, cond, List, [], ◌∷◌, ◌++◌, length, eqb, ltb}
use Rattle.std.proofs.Math.Option.{Option, none, some}

-- BTreeMap by thread number: its pairs, the least key first.
abbrev pub Map : Type 0 → Type 0
Map A = List (ℕ × A)

module _ {A : Type 0} where
  -- get
  abbrev pub get : Map A → ℕ → Option A
  get [] k = none
  get (p ∷ m) k = cond (eqb k p.0) (some p.1) (get m k)

  -- insert: what the key had is replaced
  abbrev pub insert : Map A → ℕ → A → Map A
  insert [] k v = (k, v) ∷ []
  insert (p ∷ m) k v = cond (eqb k p.0) ((k, v) ∷ m) (cond (ltb k p.0) ((k, v) ∷ p ∷ m) (p ∷ insert m k v))

  -- remove
  abbrev pub remove : Map A → ℕ → Map A
  remove [] k = []
  remove (p ∷ m) k = cond (eqb k p.0) m (p ∷ remove m k)

  -- what is found, or the default
  abbrev pub found : A → Option A → A
  found d none = d
  found d (some v) = v

  -- entry(k).or_default(), where d is the default: the map with an entry for k, which is new where there was none

  abbrev pub or_insert : Option A → A → Map A → ℕ → Map A
  or_insert none d m k = insert m k d
  or_insert (some v) d m k = m

  abbrev pub or_default : A → Map A → ℕ → Map A
  or_default d m k = or_insert (get m k) d m k

-- Result, without the text of an error.
pub data Result : Type 0 where
  Ok Err : Result

-- The index of the last completed operation of every other thread that has one (`last_completed`: the pairs are made in the order of their keys,
-- so collecting them is the list itself).

module _ {A : Type 0} where
  abbrev pub last_of : ℕ → ℕ → List A → Map ℕ → Map ℕ
  last_of t id [] rest = rest
  last_of t id (c ∷ cs) rest = cond (eqb id t) rest ((id, length cs) ∷ rest)

  abbrev pub last_completed : Map (List A) → ℕ → Map ℕ
  last_completed [] t = []
  last_completed (p ∷ h) t = last_of t p.0 p.1 (last_completed h t)

-- How many completed operations a history holds.
abbrev pub lengths : {A : Type 0} → Map (List A) → ℕ
lengths [] = 0
lengths (p ∷ h) = length p.1 + lengths h

module _ (Op Ret : Type 0) where
  -- What the two testers differ in: what is held of an operation in flight, as it is made at the invoke, and of a completed one, as its return
  -- makes it.
  pub record Keeps : Type 1 where
    pub InFlight : Type 0
    pub Complete : Type 0
    pub begun : Map (List Complete) → ℕ → Op → InFlight
    pub completed : InFlight → Ret → Complete

  -- SequentialConsistencyTester: in flight the operation, completed the operation and its return.
  abbrev pub sequential : Keeps
  sequential = record { InFlight = Op; Complete = Op × Ret; begun = λ h t op. op; completed = λ op ret. (op, ret) }

  -- LinearizabilityTester: the same, with those indices before them.
  abbrev pub linearizable : Keeps
  linearizable = record {
    InFlight = Map ℕ × Op;
    Complete = Map ℕ × Op × Ret;
    begun = λ h t op. (last_completed h t, op);
    completed = λ f ret. (f.0, f.1, ret);
  }

  module _ (RefObj : Type 0) (K : Keeps) where
    -- The fields of both testers.
    pub record Tester : Type 0 where
      pub init_ref_obj : RefObj
      pub history_by_thread : Map (List K.Complete)
      pub in_flight_by_thread : Map K.InFlight
      pub is_valid_history : Bool

    -- What a call answers, and the tester that it leaves.
    pub record Answered : Type 0 where
      pub result : Result
      pub tester : Tester

    -- new
    abbrev pub new : RefObj → Tester
    new o = record { init_ref_obj = o; history_by_thread = []; in_flight_by_thread = []; is_valid_history = true }

    -- self.is_valid_history = false
    abbrev pub invalid : Tester → Tester
    invalid s = record {
      init_ref_obj = s.init_ref_obj;
      history_by_thread = s.history_by_thread;
      in_flight_by_thread = s.in_flight_by_thread;
      is_valid_history = false;
    }

    -- self.history_by_thread.entry(thread_id).or_default()
    abbrev pub with_entry : Tester → ℕ → Tester
    with_entry s t = record {
      init_ref_obj = s.init_ref_obj;
      history_by_thread = or_default [] s.history_by_thread t;
      in_flight_by_thread = s.in_flight_by_thread;
      is_valid_history = s.is_valid_history;
    }

    -- on_invoke, by what the entry of in_flight_by_thread holds: occupied, or vacant
    abbrev pub invoke_at : Option K.InFlight → Tester → ℕ → Op → Answered
    invoke_at (some f) s t op = record { result = Err; tester = invalid s }
    invoke_at none s t op = record {
      result = Ok;
      tester = with_entry (record {
        init_ref_obj = s.init_ref_obj;
        history_by_thread = s.history_by_thread;
        in_flight_by_thread = insert s.in_flight_by_thread t (K.begun s.history_by_thread t op);
        is_valid_history = s.is_valid_history;
      }) t;
    }

    abbrev pub on_invoke : Tester → ℕ → Op → Answered
    on_invoke s t op =
        cond s.is_valid_history (invoke_at (get s.in_flight_by_thread t) s t op) (record { result = Err; tester = s })

    -- on_return, by what remove finds; the text of the error looks up the thread's entry, and makes it where there is none
    abbrev pub return_at : Option K.InFlight → Tester → ℕ → Ret → Answered
    return_at none s t ret = record { result = Err; tester = with_entry (invalid s) t }
    return_at (some f) s t ret = record {
      result = Ok;
      tester = record {
        init_ref_obj = s.init_ref_obj;
        history_by_thread = insert s.history_by_thread t (found [] (get s.history_by_thread t) ++ (K.completed f ret ∷ []));
        in_flight_by_thread = remove s.in_flight_by_thread t;
        is_valid_history = s.is_valid_history;
      };
    }

    abbrev pub on_return : Tester → ℕ → Ret → Answered
    on_return s t ret =
        cond s.is_valid_history (return_at (get s.in_flight_by_thread t) s t ret) (record { result = Err; tester = s })

    -- on_invret: self.on_invoke(..)?.on_return(..), where `?` hands an Err on

    abbrev pub on_return_if : Result → Tester → ℕ → Ret → Answered
    on_return_if Ok s t ret = on_return s t ret
    on_return_if Err s t ret = record { result = Err; tester = s }

    abbrev pub on_invret : Tester → ℕ → Op → Ret → Answered
    on_invret s t op ret = on_return_if (on_invoke s t op).result (on_invoke s t op).tester t ret

    -- len
    abbrev pub len : Tester → ℕ
    len s = length s.in_flight_by_thread + lengths s.history_by_thread
