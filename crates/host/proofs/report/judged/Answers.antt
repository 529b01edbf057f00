-- What the judge answers is told field by field.
use Rattle.std.proofs.Common.{arith, rules, ◌≡◌, length}
use Rattle.values.specs.Sizes.{capacity}
use Rattle.host.specs.Call.{judged_report}
use Rattle.host.proofs.report.judged.Goals as goal

pub overflow_cast-result : goal.overflow_cast-result
overflow_cast-result c =
    let long : length c.args.answer.order ≡ capacity = search rules in
    omega (arith, c.requires, long)

pub returns : goal.returns
unfolding judged_report
returns c = simp (← c.threads_of.ensures, ← c.from.ensures)
