-- The threads of the places taken come first, and nobody behind them.
use Rattle.std.proofs.Common.{refl, arith, rules}
use Rattle.host.proofs.Threading.{filled_more, filled_end}
use Rattle.host.proofs.report.threads_of.Goals as goal

pub loop-i-init : goal.loop-i-init
loop-i-init c = (omega arith, refl, refl)

pub loop-i-preserved : goal.loop-i-preserved
loop-i-preserved c = filled_more c.args.order (search rules) _ c.loop-i.threads c.loop-i.i c.loop-i-test.true c.loop-i.invariant

pub returns : goal.returns
returns c = filled_end c.args.order (search rules) c.loop-i.threads c.loop-i.i c.loop-i-test.false c.loop-i.invariant
