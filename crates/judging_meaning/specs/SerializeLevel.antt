-- One level of the Rust's search answers what one level of the search's tree does, in as many turns as that has attempts, where the levels below
-- agree.
use Rattle.std.specs.Prelude.{ℕ, ◌≡◌, List, ◌++◌, length}
use Rattle.std.proofs.Math.Option.{Option, none, some}
use Rattle.theory.specs.Tree.{Tree, answer, count}
use Rattle.theory.specs.Space.{Step}
use Rattle.history.specs.Object.{Object}
use Rattle.history.specs.Rows.{Rows}
use Rattle.history.specs.Space.{Node, space}
use Rattle.history.specs.Ways.{Steps, strip}
use Rattle.families.specs.RustObjects.{SequentialSpec}
use Rattle.recording_meaning.specs.Rust.{Keeps}
use Rattle.judging_meaning.specs.Serialize.{Came, TotalOrder, Serializes, Search}
use Rattle.judging_meaning.specs.Shown.{operations_from}
use Rattle.judging_meaning.specs.Remaining.{queues_at, flights_at}
use Rattle.judging_meaning.specs.Refers.{Refers}

-- The answer of a walk from where ps are placed, behind what is collected.
abbrev pub shown_from : (O : Object) (rows : Rows O) → List ℕ → TotalOrder O.Op O.Ret → Option (Steps O rows) → Option (TotalOrder O.Op O.Ret)
shown_from O rows ps v none = none
shown_from O rows ps v (some p) = some (v ++ operations_from O rows ps (strip O rows p))

-- What a search that answers so comes to, in n attempts; and the walk of a tree.

abbrev pub came_in : (O : Object) (rows : Rows O) → List ℕ → TotalOrder O.Op O.Ret → Option (Steps O rows) → ℕ → Came (TotalOrder O.Op O.Ret)
came_in O rows ps v a n = record { answer = shown_from O rows ps v a; turns = n }

abbrev pub came_from : (O : Object) (rows : Rows O) → List ℕ → TotalOrder O.Op O.Ret → Tree (Step (space O rows)) → Came (TotalOrder O.Op O.Ret)
came_from O rows ps v tree = came_in O rows ps v (answer tree) (count tree)

module _ (O : Object) (K : Keeps O.Op O.Ret) (flight : O.Op → List ℕ → K.InFlight) (S : Serializes K) (rows : Rows O)
    (Obj : SequentialSpec O.Op O.Ret) (held : O.State → Obj.Self) (Own : O.Op → Type 0) (refers : Refers O Obj held Own) where
  -- The Rust's search and a search tree agree, wherever they go on from.
  abbrev pub Same : Search K S Obj → (Node O → Tree (Step (space O rows))) → Type 0
  Same search below = (v : TotalOrder O.Op O.Ret) (ps : List ℕ) (s : O.State) → length ps ≡ length rows
      → search v (held s) (queues_at O K flight S rows ps) (flights_at O K flight S rows ps)
      ≡ came_from O rows ps v (below (record { progress = ps; object = s }))
