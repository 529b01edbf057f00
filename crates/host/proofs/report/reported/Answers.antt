-- The judge's length fits in the places.
use Rattle.host.specs.Ordered.{judge_within}
use Rattle.host.proofs.report.reported.Goals as goal

pub judged-requires : goal.judged-requires
judged-requires g c =
    let t = g.T.ConsistencyTester in
    rw c.judge.ensures (judge_within t.shaped t.held g.T.AsRows.needs c.args.loaded.tester c.args.budget)
