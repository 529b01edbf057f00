-- All threads from the first on have what is wanted.
use Rattle.std.proofs.Common.{◌+◌, ◌≡◌, true}
use Rattle.std.proofs.Math.ListN.{get_or}
use Rattle.std.specs.Prelude.{leb}
use Rattle.stepping.specs.Shape.{all_below}
use Rattle.witness.proofs.replay.reaches.Given as goal

abbrev pub invariant-loop-u : goal.invariant-loop-u
invariant-loop-u l = all_below (λ u'. leb (get_or l.wanted (l.from + u') 0) (get_or l.progress u' 0)) l.u ≡ true
