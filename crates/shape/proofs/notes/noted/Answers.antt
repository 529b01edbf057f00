-- What is left of the notes fits exactly if all do.
use Rattle.std.proofs.Common.{sym, ◌∙◌}
use Rattle.shape.proofs.NotesLaws.{notes_yes, notes_no, notes_end, notes_all}
use Rattle.shape.proofs.notes.noted.Goals as goal

pub loop-i-preserved : goal.loop-i-preserved
loop-i-preserved c =
    notes_yes c.args.history.now c.args.notes.now c.loop-i.i c.loop-i-test.true _ c.notes_fit.ensures c.if-not-notes_fit.false _ c.loop-i.invariant

pub returns-then-not-notes_fit : goal.returns-then-not-notes_fit
returns-then-not-notes_fit c =
    let h = c.args.history.now in
    let notes = c.args.notes.now in
    notes_all h notes _ c.if-history-gt-OPERATIONS.false
    (notes_no h notes c.loop-i.i c.loop-i-test.true _ c.notes_fit.ensures c.if-not-notes_fit.true _ c.loop-i.invariant)

pub returns : goal.returns
returns c =
    let h = c.args.history.now in
    let notes = c.args.notes.now in
    notes_all h notes _ c.if-history-gt-OPERATIONS.false (sym c.loop-i.invariant ∙ notes_end h notes c.loop-i.i c.loop-i-test.false)
