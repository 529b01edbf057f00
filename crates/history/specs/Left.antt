-- How many completed operations are still to be placed.
use Prim.Native.Nat.{ℕ, ◌+◌}
use Rattle.std.specs.Prelude.{drop}
use Rattle.std.proofs.Math.Option.{Option, none, some}
use mathlib.Core.List.{List, [], ◌∷◌}
use Rattle.history.specs.Object.{Object}
use Rattle.history.specs.Rows.{Rows}
use Rattle.history.specs.Recorder.{completed}

module _ (O : Object) where
  -- One for a completed operation.
  abbrev pub one_of : Option O.Ret → ℕ
  one_of none = 0
  one_of (some q) = 1

  -- The completed operations that are not placed.
  unfoldable pub left : Rows O → List ℕ → ℕ
  left [] ps = 0
  left (r ∷ rows) [] = 0
  left (r ∷ rows) (p ∷ ps) = completed O (drop p r) + left rows ps
