-- All threads from the first on have what is wanted.
use Rattle.std.proofs.Common.{◌+◌, refl, sym, arith, le-leb}
use Rattle.std.proofs.Math.ListN.{get_or}
use Rattle.std.specs.Prelude.{leb}
use Rattle.std.proofs.lemmas.Bool.{lt-leb}
use Rattle.values.specs.Sizes.{threads}
use Rattle.stepping.specs.Shape.{all_below}
use Rattle.stepping.specs.RecordLaws.{below_no, below_more, below_end}
use Rattle.witness.specs.WordsPlayed.{reaches_of}
use Rattle.witness.proofs.replay.reaches.Goals as goal

pub loop-u-init : goal.loop-u-init
unfolding all_below
loop-u-init c = refl

pub returns-then-progress-u : goal.returns-then-progress-u
unfolding reaches_of
returns-then-progress-u c =
    let a = c.args in
    sym (below_no (λ u. leb (get_or a.wanted.now (a.from + u) 0) (get_or a.progress.now u 0)) threads c.loop-u.u
    c.loop-u-test.true (lt-leb _ _ c.if-progress-u.true))

pub loop-u-preserved : goal.loop-u-preserved
loop-u-preserved c =
    let a = c.args in
    below_more (λ u. leb (get_or a.wanted.now (a.from + u) 0) (get_or a.progress.now u 0)) c.loop-u.u c.loop-u.invariant
    (le-leb _ _ c.if-progress-u.false)

pub returns : goal.returns
unfolding reaches_of
returns c =
    let a = c.args in
    below_end (λ u. leb (get_or a.wanted.now (a.from + u) 0) (get_or a.progress.now u 0)) threads c.loop-u.u (omega arith) (omega arith) c.loop-u.invariant
