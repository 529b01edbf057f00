-- The search answers with the first legal order, or there is none.
use Rattle.std.proofs.Common.{subst}
use Rattle.std.proofs.Math.Option.{Option, none, some}
use Rattle.theory.specs.Tree.{answer}
use Rattle.theory.specs.Least.{Lex, short, less, same}
use Rattle.theory.specs.Space.{Step}
use Rattle.theory.specs.Judge.{Right}
use Rattle.theory.proofs.Judge.{search_right}
use Rattle.history.specs.Object.{Object, Lawful}
use Rattle.history.specs.Rows.{Rows}
use Rattle.history.specs.Orders.{Before}
use Rattle.history.specs.Space.{space, size, root}
use Rattle.history.specs.Moves.{falls}
use Rattle.history.specs.Ways.{Steps, searched, strip}
use Rattle.history.proofs.Ways.{way_order, order_way}
use Rattle.history.specs.Verdict.{Answers}

module _ (O : Object) (rows : Rows O) where
  strip_before : {p q : Steps O rows} → Lex (λ (e : Step (space O rows)). e.thread) p q → Before O (strip O rows p) (strip O rows q)
  strip_before short = short
  strip_before (less h) = less h
  strip_before (same h w) = same h (strip_before w)

  module _ (L : Lawful O) (s : O.State) where
    answers : (a : Option (Steps O rows)) → Right (space O rows) (size O rows) (falls O rows) (root O rows s) a → Answers O rows s a
    answers (some p) h = record {
      legal = way_order O rows L s h.0;
      least = λ q w. let z = order_way O rows L s q w in subst (Before O (strip O rows p)) z.2 (strip_before (h.1 z.0 z.1));
    }
    answers none h = λ q w. let z = order_way O rows L s q w in h z.0 z.1

-- For both models, which differ only in the notes of the rows.
pub verdict : (O : Object) → Lawful O → (rows : Rows O) (s : O.State) → Answers O rows s (answer (searched O rows s))
verdict O L rows s = answers O rows L s (answer (searched O rows s)) (search_right (space O rows) (size O rows) (falls O rows) (root O rows s))
