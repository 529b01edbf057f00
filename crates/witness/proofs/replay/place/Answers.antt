-- A place that is no operation's, or comes too early, is wrong; else the operation settles it.
use Rattle.std.proofs.Common.{sym, ◌∙◌, arith, length-take, lt-ltb, le-ltb}
use Rattle.witness.specs.WordsPlayed.{stage_after}
use Rattle.witness.proofs.Finding.{number_below}
use Rattle.witness.proofs.replay.place.Goals as goal

pub returns-then-own-ge-THREADS : goal.returns-then-own-ge-THREADS
unfolding stage_after
returns-then-own-ge-THREADS c = simp (le-ltb _ _ c.if-own-ge-THREADS.true)

pub returns-in_err-at : goal.returns-in_err-at
unfolding stage_after
returns-in_err-at c = c.from_residual.ensures ∙ simp (lt-ltb _ _ c.if-own-ge-THREADS.false, le-ltb _ _ c.in_err-at.ensures)

pub returns-then-not-reaches : goal.returns-then-not-reaches
unfolding stage_after
returns-then-not-reaches c =
    simp (lt-ltb _ _ c.if-own-ge-THREADS.false, ← c.in_ok-at.ensures.1, lt-ltb _ _ c.in_ok-at.ensures.0, sym c.if-not-reaches.ensures)

pub returns-in_err-settled : goal.returns-in_err-settled
unfolding stage_after
returns-in_err-settled c =
    c.from_residual-in_err-settled.ensures
    ∙ simp (
      lt-ltb _ _ c.if-own-ge-THREADS.false,
      ← c.in_ok-at.ensures.1,
      lt-ltb _ _ c.in_ok-at.ensures.0,
      sym c.if-not-reaches.ensures,
      sym c.settle.ensures ∙ c.in_err-settled.was,
    )

pub overflow_add-progress : goal.overflow_add-progress
overflow_add-progress c =
    let h = c.args.history.now in
    omega (arith, number_below _ _ _ _ c.in_ok-at.ensures.1 c.in_ok-at.ensures.0, length-take h.count h.ops, c.requires)

pub returns : goal.returns
unfolding stage_after
returns c =
    simp (
      lt-ltb _ _ c.if-own-ge-THREADS.false,
      ← c.in_ok-at.ensures.1,
      lt-ltb _ _ c.in_ok-at.ensures.0,
      sym c.if-not-reaches.ensures,
      sym c.settle.ensures ∙ c.in_ok-settled.was,
    )
