-- No thread that is passed over has anything left to place.
use Rattle.std.proofs.Common.{ℕ, ◌≤◌, ◌<◌}
use Rattle.std.proofs.Math.ListN.{get_or}
use Rattle.judging.proofs.search.ready.Given as goal

abbrev pub invariant-loop-k : goal.invariant-loop-k
invariant-loop-k l = (j : ℕ) → j < l.k → l.from ≤ j → get_or l.started j 0 ≤ get_or l.progress j 0
