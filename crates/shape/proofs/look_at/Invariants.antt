-- What is left of the operations is in shape, with what was counted so far, exactly if the history is.
use Rattle.shape.proofs.Looking.{Looking}
use Rattle.shape.proofs.look_at.Given as goal

abbrev pub invariant-loop-at : goal.invariant-loop-at
invariant-loop-at l = Looking l.fn.history l.kind l.flying l.left l.at
