-- An order that takes no step once every completed operation is placed.
use Rattle.std.specs.Prelude.{ℕ, ◌≡◌, false, List, [], ◌∷◌}
use Rattle.history.specs.Object.{Object}
use Rattle.history.specs.Rows.{Rows}
use Rattle.history.specs.Orders.{Order}
use Rattle.history.specs.Space.{more, all_placed}

module _ (O : Object) (rows : Rows O) where
  -- no step is taken once every completed operation is placed
  abbrev pub Tight : List ℕ → Order O → Type 0
  Tight ps [] = Unit {0}
  Tight ps (x ∷ p) = (all_placed O rows ps ≡ false) × Tight (more ps x.thread) p
