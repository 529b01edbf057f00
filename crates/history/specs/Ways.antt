-- The tree that is searched, and the order that the steps to an end in it make.
use Rattle.std.specs.Prelude.{List, [], ◌∷◌}
use Rattle.theory.specs.Tree.{Tree}
use Rattle.theory.specs.Space.{Step}
use Rattle.theory.specs.Judge.{tree}
use Rattle.history.specs.Object.{Object}
use Rattle.history.specs.Rows.{Rows}
use Rattle.history.specs.Orders.{Order}
use Rattle.history.specs.Space.{space, size, root}
use Rattle.history.specs.Moves.{falls}

module _ (O : Object) (rows : Rows O) where
  abbrev pub Steps : Type 0
  Steps = List (Step (space O rows))

  -- the tree that is searched, from the initial object s on
  abbrev pub searched : O.State → Tree (Step (space O rows))
  searched s = tree (space O rows) (size O rows) (falls O rows) (root O rows s)

  -- the order that steps make
  abbrev pub strip : Steps → Order O
  strip [] = []
  strip (e ∷ p) = record { thread = e.thread; ret = e.label } ∷ strip p
