-- What the search answers under a budget of attempts.
use Rattle.std.specs.Prelude.{ℕ}
use Rattle.theory.specs.Space.{Step}
use Rattle.theory.specs.Budget.{Judged, judge}
use Rattle.history.specs.Object.{Object}
use Rattle.history.specs.Rows.{Rows}
use Rattle.history.specs.Space.{space}
use Rattle.history.specs.Ways.{searched}

module _ (O : Object) (rows : Rows O) where
  -- what the search from the object s answers under the budget b
  abbrev pub judged : ℕ → O.State → Judged (Step (space O rows))
  judged b s = judge b (searched O rows s)
