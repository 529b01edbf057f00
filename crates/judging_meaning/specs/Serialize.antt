-- The Rust's search for an order, transcribed on lists: `serialize`, `serialized_history` and `is_consistent` of stateright 0.31.0,
-- src/semantics/linearizability.rs and sequential_consistency.rs. Definitions only. `serialize` is written once, over any reference object; what the
-- two testers differ in is the record Serializes. Beside what the Rust returns, the turns of its loop are counted that look at an operation.
use Rattle.std.specs.Prelude.{ℕ, zero, suc, ◌+◌, Bool, true, false, cond, ◌&&◌, ◌||◌, List, [], ◌∷◌, ◌++◌, leb}
use Rattle.std.proofs.Math.Option.{Option, none, some}
use Rattle.families.specs.RustObjects.{SequentialSpec}
use Rattle.recording_meaning.specs.Rust.{Map, get, insert, remove, Keeps, Tester, len, sequential, linearizable}

module _ {A : Type 0} where
  -- h.is_empty()
  abbrev pub is_empty : List A → Bool
  is_empty [] = true
  is_empty (a ∷ l) = false

  -- .iter().all(|(_id, h)| h.is_empty())
  abbrev pub all_empty : Map (List A) → Bool
  all_empty [] = true
  all_empty (p ∷ m) = is_empty p.1 && all_empty m

  -- .is_some()
  abbrev pub is_some : Option A → Bool
  is_some (some v) = true
  is_some none = false

  -- |(peer_id, min_peer_time)| ..: what get(peer_id) finds has a next operation, and next_peer_time <= min_peer_time
  abbrev pub behind : ℕ → Option (List (ℕ × A)) → Bool
  behind min-peer-time none = false
  behind min-peer-time (some []) = false
  behind min-peer-time (some (o ∷ ops)) = leb o.0 min-peer-time

  -- cs.iter().any(..)
  abbrev pub any_behind : Map (List (ℕ × A)) → Map ℕ → Bool
  any_behind remaining [] = false
  any_behind remaining (c ∷ cs) = behind c.1 (get remaining c.0) || any_behind remaining cs

-- What a search comes to: what the Rust returns and, counted beside it, the turns of `for (thread_id, remaining_history)` in which the thread still
-- had an operation to place, whether it was then placed or turned away. The Rust does not count.
pub record Came (A : Type 0) : Type 0 where
  pub answer : Option A
  pub turns : ℕ

module _ {A : Type 0} where
  -- what is returned at once, with no turn
  abbrev pub returned : Option A → Came A
  returned a = record { answer = a; turns = 0 }

  -- a turn that looks at an operation, and what it comes to
  abbrev pub looked : Came A → Came A
  looked c = record { answer = c.answer; turns = suc c.turns }

  -- if let Some(valid_history) = .. { return Some(valid_history) }, and what comes after it: the turns of that are made only if it is reached

  abbrev pub or_after : Option A → ℕ → Came A → Came A
  or_after (some v) n rest = record { answer = some v; turns = n }
  or_after none n rest = record { answer = rest.answer; turns = n + rest.turns }

  abbrev pub or_else : Came A → Came A → Came A
  or_else c rest = or_after c.answer c.turns rest

-- Vec<(RefObj::Op, RefObj::Ret)>: a total order.
abbrev pub TotalOrder : Type 0 → Type 0 → Type 0
TotalOrder Op Ret = List (Op × Ret)

-- What the two testers differ in.
pub record Serializes {Op Ret : Type 0} (K : Keeps Op Ret) : Type 1 where
  -- what stands in a queue of remaining_history_by_thread, as it is made of the completed operation at an index
  pub Remaining : Type 0
  pub queued : ℕ → K.Complete → Remaining
  -- what pop_front gives: the operation as it was in flight, and its return
  pub popped : Remaining → K.InFlight × Ret
  pub operation : K.InFlight → Op
  -- violation, by what remains once the operation is taken out
  pub violation : K.InFlight → Map (List Remaining) → Bool

module _ (Op Ret : Type 0) where
  -- SequentialConsistencyTester: the queues are those of history_by_thread, and there is no violation.
  abbrev pub sequential_serializes : Serializes (sequential Op Ret)
  sequential_serializes = record {
    Remaining = Op × Ret;
    queued = λ i c. c;
    popped = λ c. (c.0, c.1);
    operation = λ op. op;
    violation = λ op remaining. false;
  }

  -- LinearizabilityTester: the queues are enumerated, .map(|(t, cs)| (*t, cs.clone().into_iter().enumerate().collect())), and an operation is
  -- turned away while a peer still has one that it must come after.
  abbrev pub linearizable_serializes : Serializes (linearizable Op Ret)
  linearizable_serializes = record {
    Remaining = ℕ × (linearizable Op Ret).Complete;
    queued = λ i c. (i, c);
    popped = λ c. ((c.1.0, c.1.1), c.1.2);
    operation = λ f. f.1;
    violation = λ f remaining. any_behind remaining f.0;
  }

module _ {Op Ret : Type 0} (K : Keeps Op Ret) (S : Serializes K) where
  -- remaining_history_by_thread, and in_flight_by_thread.

  abbrev pub Queues : Type 0
  Queues = Map (List S.Remaining)

  abbrev pub Flights : Type 0
  Flights = Map K.InFlight

  -- A queue of completed operations, the first with the index i; and all of them.

  abbrev pub queue : ℕ → List K.Complete → List S.Remaining
  queue i [] = []
  queue i (c ∷ cs) = S.queued i c ∷ queue (suc i) cs

  abbrev pub queues : Map (List K.Complete) → Queues
  queues [] = []
  queues (p ∷ m) = (p.0, queue 0 p.1) ∷ queues m

  module _ (RefObj : SequentialSpec Op Ret) where
    -- Self::serialize(valid_history, &ref_obj, &remaining_history_by_thread, &in_flight_by_thread)
    abbrev pub Search : Type 0
    Search = TotalOrder Op Ret → RefObj.Self → Queues → Flights → Came (TotalOrder Op Ret)

    -- The body of the loop; a continue comes to none.
    module _ (search : Search) (valid-history : TotalOrder Op Ret) (ref_obj : RefObj.Self) (remaining : Queues) (in_flight : Flights) where
      -- Case 1: no remaining history to interleave; maybe in flight, by what the key has. That is removed, and pushed with what invoke answers on a
      -- clone of ref_obj.
      abbrev pub try_in_flight : ℕ → Option K.InFlight → Came (TotalOrder Op Ret)
      try_in_flight thread none = returned none
      try_in_flight thread (some f) =
          let invoked = RefObj.invoke ref_obj (S.operation f) in
          looked (cond (S.violation f remaining) (returned none)
          (search (valid-history ++ ((S.operation f, invoked.0) ∷ [])) invoked.1 remaining (remove in_flight thread)))

      -- Case 2: has remaining history to interleave. What was popped, and the queues after that; it is pushed with its own return, unless
      -- is_valid_step on a clone of ref_obj is false: that clone is dropped.
      abbrev pub try_remaining : K.InFlight × Ret → Queues → Came (TotalOrder Op Ret)
      try_remaining p remaining-after =
          let step = RefObj.is_valid_step ref_obj (S.operation p.0) p.1 in
          looked (cond (S.violation p.0 remaining-after) (returned none)
          (cond step.0 (search (valid-history ++ ((S.operation p.0, p.1) ∷ [])) step.1 remaining-after in_flight) (returned none)))

      -- if remaining_history.is_empty() { Case 1 } else { Case 2 }; pop_front leaves the rest of the queue in the thread's entry
      abbrev pub try_thread : ℕ → List S.Remaining → Came (TotalOrder Op Ret)
      try_thread thread [] = try_in_flight thread (get in_flight thread)
      try_thread thread (c ∷ cs) = try_remaining (S.popped c) (insert remaining thread cs)

      -- for (thread_id, remaining_history) in remaining_history_by_thread.iter() { .. } None
      abbrev pub try_each : Queues → Came (TotalOrder Op Ret)
      try_each [] = returned none
      try_each (p ∷ m) = or_else (try_thread p.0 p.1) (try_each m)

    -- serialize, down to n levels: what is collected once nothing remains, else the loop. Each level takes an operation out, so that with as many
    -- levels as there are operations it never stops short (RustVerdict shows that more change nothing).
    abbrev pub serialize : ℕ → Search
    serialize zero valid-history ref_obj remaining in_flight = returned (cond (all_empty remaining) (some valid-history) none)
    serialize (suc n) valid-history ref_obj remaining in_flight =
        cond (all_empty remaining) (returned (some valid-history)) (try_each (serialize n) valid-history ref_obj remaining in_flight remaining)

    module _ {Init : Type 0} (ref_obj : Init → RefObj.Self) (s : Tester Op Ret Init K) where
      -- What the search of a tester comes to, where `ref_obj` says what its initial object is in the Rust.
      abbrev pub search_history : Came (TotalOrder Op Ret)
      search_history =
          cond s.is_valid_history
          (serialize (len Op Ret Init K s) [] (ref_obj s.init_ref_obj) (queues s.history_by_thread) s.in_flight_by_thread) (returned none)

      -- serialized_history
      abbrev pub serialized_history : Option (TotalOrder Op Ret)
      serialized_history = search_history.answer

      -- is_consistent: self.serialized_history().is_some()
      abbrev pub rust_is_consistent : Bool
      rust_is_consistent = is_some serialized_history
