-- The threads of the places taken come first, and nobody behind them.
use Rattle.host.proofs.Threading.{Filled}
use Rattle.host.proofs.report.threads_of.Given as goal

abbrev pub invariant-loop-i : goal.invariant-loop-i
invariant-loop-i l = Filled l.order l.threads l.i
