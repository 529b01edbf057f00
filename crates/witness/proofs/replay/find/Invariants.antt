-- What is left of the operations has the one that is looked for, at so many fewer of its thread.
use Rattle.witness.proofs.Finding.{Finding}
use Rattle.witness.proofs.replay.find.Given as goal

abbrev pub invariant-loop-i : goal.invariant-loop-i
invariant-loop-i l = Finding l.ops l.thread l.number l.left l.i
