-- The notes are met if each thread's is.
use Rattle.std.proofs.Common.{sym, arith}
use Rattle.judging.proofs.Noting.{notes_met, note_unmet}
use Rattle.judging.proofs.search.allowed.Goals as goal

pub returns-then-progress-u : goal.returns-then-progress-u
returns-then-progress-u c =
    let a = c.args in
    sym (note_unmet a.notes.now a.at a.progress.now c.told-progress c.loop-u.u c.loop-u-test.true c.if-progress-u.true)

pub returns : goal.returns
returns c =
    let a = c.args in
    sym (notes_met a.notes.now a.at a.progress.now c.told-progress (λ u l. c.loop-u.invariant u (omega (arith, c.loop-u-test.false))))
