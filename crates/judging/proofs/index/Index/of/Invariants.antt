-- Each operation takes the next slot of its thread.
use Rattle.judging.proofs.Indexing.{Built}
use Rattle.judging.proofs.index.Index.of.Given as goal

abbrev pub invariant-loop-i : goal.invariant-loop-i
invariant-loop-i l = Built l.history l.slot l.started l.i
