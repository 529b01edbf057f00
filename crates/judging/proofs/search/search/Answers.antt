-- The loop stops as the walk does, and an order is shown with its returns.
use Rattle.std.proofs.Common.{◌≡◌, sym, ◌∙◌, length, length-take-le, arith, rules}
use Rattle.values.specs.Sizes.{capacity}
use Rattle.recording_meaning.specs.Reading.{notes_of}
use Rattle.judging.specs.Answers.{judged_of}
use Rattle.judging.proofs.Answering.{stopped_order, stopped_with, stopped_without}
use Rattle.judging.proofs.search.search.Goals as goal

pub slice_bounds-path-end : goal.slice_bounds-path-end
slice_bounds-path-end c =
    omega (arith, (stopped_order _ _ _ _ c.run-verdict.ensures (sym c.if-is_consistent.ensures)).within)

pub slice_bounds-order_of-end : goal.slice_bounds-order_of-end
slice_bounds-order_of-end c =
    let w = stopped_order _ _ _ _ c.run-verdict.ensures (sym c.if-is_consistent.ensures) in
    sym (length-take-le c.run-verdict.result.depth c.run-verdict.new.path (omega (arith, w.within, c.run-verdict.array_long)))

pub order_of-requires-clause-playable : goal.order_of-requires-clause-playable
order_of-requires-clause-playable c = (stopped_order _ _ _ _ c.run-verdict.ensures (sym c.if-is_consistent.ensures)).playable

pub returns-then-is_consistent : goal.returns-then-is_consistent
returns-then-is_consistent c =
    let a = c.args in
    let h = c.of-index.ensures in
    let long : length c.order_of.result ≡ capacity = search rules in
    stopped_with (judged_of (notes_of a.notes.now) a.history a.budget) a.history c.run-verdict.new.path c.run-verdict.result
    (rw h at c.run-verdict.ensures) (sym c.if-is_consistent.ensures) c.run-verdict.array_long c.order_of.result long (rw h at c.order_of.ensures)

pub returns-else-is_consistent : goal.returns-else-is_consistent
returns-else-is_consistent c =
    let a = c.args in
    c.without_order.ensures
    ∙ stopped_without (judged_of (notes_of a.notes.now) a.history a.budget) a.history c.run-verdict.new.path c.run-verdict.result
    (rw c.of-index.ensures at c.run-verdict.ensures) (sym c.if-is_consistent.ensures)
