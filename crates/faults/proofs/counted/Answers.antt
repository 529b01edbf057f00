-- A thread that there is gets its counter; of any other nothing changes, since it stands behind the end.
use Rattle.std.proofs.Common.{◌≡◌, sym, length, arith, rules}
use Rattle.std.proofs.Math.Seq.{set_out}
use Rattle.values.specs.Sizes.{threads}
use Rattle.faults.proofs.counted.Goals as goal

pub returns-else-t-lt-THREADS : goal.returns-else-t-lt-THREADS
returns-else-t-lt-THREADS c = let l : length c.args.done ≡ threads = search rules in sym (set_out c.args.done _ _ (omega arith))
