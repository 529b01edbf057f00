-- Placing the path once more from the start gives each place its return.
use Rattle.judging.specs.Playing.{situation}
use Rattle.judging.proofs.Replaying.{Replaying}
use Rattle.judging.proofs.search.order_of.Given as goal

abbrev pub invariant-loop-d : goal.invariant-loop-d
invariant-loop-d l = Replaying l.index.history.now l.path (situation l.items l.held l.progress) l.order l.d
