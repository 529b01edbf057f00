-- What is left of the operations is in shape, with what was counted so far, exactly if the history is.
use Rattle.std.proofs.Common.{refl, sym, ◌∙◌, arith, rules}
use Rattle.std.proofs.Math.ListN.{length-take}
use Rattle.shape.proofs.Looking.{look_start, look_no, look_more, look_end, look_marks, look_yes, look_out, zeros_left, shaped_no, sizes_yes, sizes_no}
use Rattle.shape.proofs.look_at.Goals as goal

pub returns-then-not-sizes_fit : goal.returns-then-not-sizes_fit
returns-then-not-sizes_fit c = look_out _ c.args.history.now (sizes_no c.args.noted c.args.history.now (sym c.sizes_fit.ensures ∙ c.if-not-sizes_fit.true))

pub shared_ref_as_front-o-items : goal.shared_ref_as_front-o-items
shared_ref_as_front-o-items c = (sizes_yes _ _ _ (sym c.sizes_fit.ensures ∙ c.if-not-sizes_fit.false)).1.0

pub offset_bounds-o-items-at : goal.offset_bounds-o-items-at
offset_bounds-o-items-at c =
    let few = (sizes_yes _ _ _ (sym c.sizes_fit.ensures ∙ c.if-not-sizes_fit.false)).1.0 in
    omega (arith, few, length-take c.args.history.now.count c.args.history.now.ops)

pub loop-at-init : goal.loop-at-init
loop-at-init c =
    let sized = sizes_yes _ _ _ (sym c.sizes_fit.ensures ∙ c.if-not-sizes_fit.false) in
    look_start c.args.history.now c.args.history.now.start.kind refl sized.1.0 sized.1.1 (search rules)

pub returns-then-not-count_in : goal.returns-then-not-count_in
returns-then-not-count_in c =
    let h = c.args.history.now in
    look_out _ h
    (shaped_no c.args.noted h
    (look_no h h.start.kind _ _ _ c.loop-at.invariant c.loop-at-test.true _ c.count_in.ensures.value c.if-not-count_in.true))

pub loop-at-preserved : goal.loop-at-preserved
loop-at-preserved c =
    let h = c.args.history.now in
    let counted = c.if-not-count_in.false in
    look_more h h.start.kind _ _ _ c.loop-at.invariant c.loop-at-test.true _ c.count_in.ensures.value counted _ _
    (c.count_in.ensures.flying_after counted) (c.count_in.ensures.left_after counted)

pub returns-then-eq : goal.returns-then-eq
returns-then-eq c =
    let h = c.args.history.now in
    let sized = sizes_yes _ _ _ (sym c.sizes_fit.ensures ∙ c.if-not-sizes_fit.false) in
    let at_end = c.loop-at.invariant in
    let none = zeros_left _ _ at_end.left_long c.eq.ensures in
    look_yes _ h (look_end h h.start.kind _ _ _ at_end c.loop-at-test.false c.args.noted sized.0 _ none ∙ c.if-eq.true) _
    (look_marks h h.start.kind _ _ _ at_end c.loop-at-test.false)

pub returns-else-eq : goal.returns-else-eq
returns-else-eq c =
    let h = c.args.history.now in
    let sized = sizes_yes _ _ _ (sym c.sizes_fit.ensures ∙ c.if-not-sizes_fit.false) in
    let at_end = c.loop-at.invariant in
    let none = zeros_left _ _ at_end.left_long c.eq.ensures in
    look_out _ h (look_end h h.start.kind _ _ _ at_end c.loop-at-test.false c.args.noted sized.0 _ none ∙ c.if-eq.false)
