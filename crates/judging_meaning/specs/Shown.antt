-- What an order and a verdict of the judge are in the Rust's terms, which shows an order as its operations with their returns.
use Rattle.std.specs.Prelude.{ℕ, List, [], ◌∷◌, length, replicate}
use Rattle.std.proofs.Math.Option.{Option, none, some}
use Rattle.theory.specs.Space.{Step}
use Rattle.theory.specs.Budget.{Verdict, order, no_order, undecided}
use Rattle.history.specs.Object.{Object}
use Rattle.history.specs.Rows.{Entry, Rows}
use Rattle.history.specs.Orders.{Order}
use Rattle.history.specs.Space.{next, more, space}
use Rattle.history.specs.Ways.{Steps, strip}
use Rattle.judging_meaning.specs.Serialize.{TotalOrder}

module _ (O : Object) (rows : Rows O) where
  -- An operation, where there is one, and the return that it has, before the rest.
  abbrev pub with_operation : Option (Entry O) → O.Ret → TotalOrder O.Op O.Ret → TotalOrder O.Op O.Ret
  with_operation none r l = l
  with_operation (some e) r l = (e.op, r) ∷ l

  -- The operations of what follows where ps are placed: at each place the next one of the thread that stands there, with the return that it has
  -- there.
  abbrev pub operations_from : List ℕ → Order O → TotalOrder O.Op O.Ret
  operations_from ps [] = []
  operations_from ps (x ∷ p) = with_operation (next rows ps x.thread) x.ret (operations_from (more ps x.thread) p)

  -- An order with its operations: nothing is placed before it.
  abbrev pub with_operations : Order O → TotalOrder O.Op O.Ret
  with_operations p = operations_from (replicate (length rows) 0) p

  -- The answer of a search.
  abbrev pub shown : Option (Steps O rows) → Option (TotalOrder O.Op O.Ret)
  shown none = none
  shown (some p) = some (with_operations (strip O rows p))

  -- A verdict. The Rust has no budget, so that undecided has no counterpart there; it is not given where the budget covers the search.
  abbrev pub shown_verdict : Verdict (Step (space O rows)) → Option (TotalOrder O.Op O.Ret)
  shown_verdict (order p) = some (with_operations (strip O rows p))
  shown_verdict no_order = none
  shown_verdict undecided = none
