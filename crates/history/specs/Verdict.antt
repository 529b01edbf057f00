-- The search answers with the first legal order, or there is none.
use Rattle.std.proofs.Math.Option.{Option, none, some}
use Rattle.history.specs.Object.{Object}
use Rattle.history.specs.Rows.{Rows}
use Rattle.history.specs.Orders.{Order, LegalOrder, First}
use Rattle.history.specs.Ways.{Steps, strip}

module _ (O : Object) (rows : Rows O) where
  -- What an answer has to be: the first legal order; or none, where there is none.
  abbrev pub Answers : O.State → Option (Steps O rows) → Type 0
  Answers s (some p) = First O rows s (strip O rows p)
  Answers s none = (q : Order O) → LegalOrder O rows s q → ⊥
