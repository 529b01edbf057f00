-- The Rust's search answers what the walk of the search's tree answers, shown in the Rust's terms, in as many turns as that makes attempts: for
-- both testers, over any object.
use Rattle.std.specs.Prelude.{ℕ, zero, suc, ◌≤◌, ◌≡◌, refl, Bool, true, false, cond, List, [], length, replicate}
use Rattle.std.proofs.Common.{sym, ap, ◌∙◌, append-nil, arith}
use Rattle.std.proofs.Math.Option.{Option, none, some}
use Rattle.std.proofs.lemmas.List.{length-replicate}
use Rattle.theory.specs.Tree.{done, stuck, answer, count}
use Rattle.theory.specs.Space.{row as tries, point, grow}
use Rattle.history.specs.Object.{Object}
use Rattle.history.specs.Rows.{Rows, AllShaped}
use Rattle.history.specs.Space.{Node, all_placed, space, size, root}
use Rattle.history.specs.Ways.{Steps, searched}
use Rattle.families.specs.RustObjects.{SequentialSpec}
use Rattle.recording_meaning.specs.Rust.{Keeps, len}
use Rattle.recording_meaning.specs.RustMaps.{in_maps}
use Rattle.recording_meaning.proofs.RustSteps.{len_operations}
use Rattle.judging_meaning.specs.Serialize.{Came, returned, TotalOrder, Serializes, try_each, serialize}
use Rattle.judging_meaning.specs.Shown.{shown}
use Rattle.judging_meaning.specs.Within.{all_unplaced}
use Rattle.judging_meaning.specs.Remaining.{queues_at, flights_at, queues_begin, flights_begin, done_exactly}
use Rattle.judging_meaning.specs.Violations.{Agrees}
use Rattle.judging_meaning.specs.Refers.{Refers, AllOwn}
use Rattle.judging_meaning.specs.Levels.{deep_enough}
use Rattle.judging_meaning.specs.SerializeLevel.{shown_from, came_from, Same}
use Rattle.judging_meaning.proofs.SerializeLevel.{threads_agree}
use Rattle.judging_meaning.specs.SerializeAgrees.{came, from_begin}

shown_begin : (O : Object) (rows : Rows O) (a : Option (Steps O rows)) → shown_from O rows (replicate (length rows) 0) [] a ≡ shown O rows a
shown_begin O rows none = refl
shown_begin O rows (some p) = refl

module _ (O : Object) (K : Keeps O.Op O.Ret) (flight : O.Op → List ℕ → K.InFlight) (S : Serializes K) (rows : Rows O)
    (Obj : SequentialSpec O.Op O.Ret) (held : O.State → Obj.Self) (Own : O.Op → Type 0) (refers : Refers O Obj held Own) (agrees : Agrees O K flight S rows)
    (shaped : AllShaped O rows) (own : AllOwn O rows Own) where
  -- all levels, from wherever they go on
  levels_agree : (n : ℕ) → Same O K flight S rows Obj held Own refers (serialize K S Obj n) (grow (space O rows) n)
  levels_agree zero v ps s many = rw (done_exactly O K flight S rows ps 0) (go (all_placed O rows ps))
    where
      go : (b : Bool) → returned (cond b (some v) none) ≡ came_from O rows ps v (cond b done stuck)
      go true = ap (λ (l : TotalOrder O.Op O.Ret). returned (some l)) (sym (append-nil v))
      go false = refl
  levels_agree (suc n) v ps s many =
      rw (done_exactly O K flight S rows ps 0)
      (go (all_placed O rows ps)
      (threads_agree O K flight S rows Obj held Own refers agrees shaped own (serialize K S Obj n) (grow (space O rows) n) (levels_agree n) v ps s many (length rows) 0
      (omega arith)))
    where
      here : Node O
      here = record { progress = ps; object = s }

      loop : Came (TotalOrder O.Op O.Ret)
      loop = try_each K S Obj (serialize K S Obj n) v (held s) (queues_at O K flight S rows ps) (flights_at O K flight S rows ps) (queues_at O K flight S rows ps)

      go : (b : Bool) → loop ≡ came_from O rows ps v (tries (space O rows) (grow (space O rows) n) here 0 (length rows))
          → cond b (returned (some v)) loop ≡ came_from O rows ps v (point (space O rows) (grow (space O rows) n) here b)
      go true h = ap (λ (l : TotalOrder O.Op O.Ret). returned (some l)) (sym (append-nil v))
      go false h = h

  -- from where the Rust's tester begins

  begins : (n : ℕ) (s : O.State) → from_begin O K flight S rows Obj held Own refers agrees shaped own n (held s) ≡ came O rows (grow (space O rows) n (root O rows s))
  begins n s =
      let tree = grow (space O rows) n (root O rows s) in
      rw (queues_begin O K flight S rows 0, flights_begin O K flight S rows 0)
      (levels_agree n [] (replicate (length rows) 0) s (length-replicate (length rows) 0)
      ∙ ap (λ (a : Option (TotalOrder O.Op O.Ret)). record { answer = a; turns = count tree }) (shown_begin O rows (answer tree)))

  -- The Rust's search of the rows comes to what the walk does, down to as many levels as its len says or more.
  pub serialize_agrees : {Start : Type 0} (start : Start) (o : Obj.Self) (s : O.State) → o ≡ held s
      → (n : ℕ) → len O.Op O.Ret Start K (in_maps O K flight start rows true) ≤ n → from_begin O K flight S rows Obj held Own refers agrees shaped own n o ≡ came O rows (searched O rows s)
  serialize_agrees start o s is n h =
      let x = root O rows s in
      ap (from_begin O K flight S rows Obj held Own refers agrees shaped own n) is
      ∙ begins n s
      ∙ ap (came O rows)
      (deep_enough O rows n (size O rows x) x (omega (arith, all_unplaced O rows, len_operations O K flight 0 rows shaped)) (omega arith))
