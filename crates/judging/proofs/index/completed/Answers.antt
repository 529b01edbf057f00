use Rattle.std.proofs.Common.{◌≡◌, ◌∙◌, rules}
use Rattle.std.proofs.iter.runs.Sources.{sums}
use Rattle.std.specs.Prelude.{sum}
use Rattle.judging.proofs.Indexing.{sum_same}
use Rattle.judging.proofs.index.completed.Goals as goal

pub sum-requires-clause-fits : goal.sum-requires-clause-fits
sum-requires-clause-fits c = search (rules, sums)

pub returns : goal.returns
returns c =
    let total : c.sum.result ≡ sum c.args.done.now = search (rules, sums) in
    total ∙ sum_same c.args.done.now
