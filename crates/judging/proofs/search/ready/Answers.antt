-- No thread that is passed over has anything left to place.
use Rattle.std.proofs.Common.{arith, rules}
use Rattle.judging.proofs.search.ready.Goals as goal

pub returns-then-progress-k : goal.returns-then-progress-k
returns-then-progress-k c = (
  search rules,
  record { above = search rules; below = search rules; passed = λ j a b. c.loop-k.invariant j b a; has = λ l. c.if-progress-k.true },
)

pub returns : goal.returns
returns c = record {
  above = search rules;
  below = search rules;
  passed = λ j a b. c.loop-k.invariant j (omega arith) a;
  has = λ l. absurd (omega arith);
}
