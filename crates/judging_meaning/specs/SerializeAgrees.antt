-- The Rust's search answers what the walk of the search's tree answers, shown in the Rust's terms, in as many turns as that makes attempts: for
-- both testers, over any object.
use Rattle.std.specs.Prelude.{ℕ, List, []}
use Rattle.theory.specs.Tree.{Tree, answer, count}
use Rattle.theory.specs.Space.{Step}
use Rattle.history.specs.Object.{Object}
use Rattle.history.specs.Rows.{Rows, AllShaped}
use Rattle.history.specs.Space.{space}
use Rattle.families.specs.RustObjects.{SequentialSpec}
use Rattle.recording_meaning.specs.Rust.{Keeps}
use Rattle.recording_meaning.specs.RustMaps.{tabled, history_entry, flight_entry}
use Rattle.judging_meaning.specs.Serialize.{Came, TotalOrder, Serializes, queues, serialize}
use Rattle.judging_meaning.specs.Shown.{shown}
use Rattle.judging_meaning.specs.Violations.{Agrees}
use Rattle.judging_meaning.specs.Refers.{Refers, AllOwn}

-- What the walk of a tree comes to, from where nothing is placed.
abbrev pub came : (O : Object) (rows : Rows O) → Tree (Step (space O rows)) → Came (TotalOrder O.Op O.Ret)
came O rows tree = record { answer = shown O rows (answer tree); turns = count tree }

module _ (O : Object) (K : Keeps O.Op O.Ret) (flight : O.Op → List ℕ → K.InFlight) (S : Serializes K) (rows : Rows O)
    (Obj : SequentialSpec O.Op O.Ret) (held : O.State → Obj.Self) (Own : O.Op → Type 0) (refers : Refers O Obj held Own) (agrees : Agrees O K flight S rows)
    (shaped : AllShaped O rows) (own : AllOwn O rows Own) where
  -- from where the Rust's tester begins

  abbrev pub from_begin : ℕ → Obj.Self → Came (TotalOrder O.Op O.Ret)
  from_begin n o = serialize K S Obj n [] o (queues K S (tabled (history_entry O K flight) 0 rows)) (tabled (flight_entry O K flight) 0 rows)
