-- The note at its place, or nowhere.
use Rattle.std.proofs.Common.{◌*◌, sym, replicate, arith}
use Rattle.std.proofs.Math.Seq.{set_out}
use Rattle.values.specs.Sizes.{threads, capacity}
use Rattle.faults.specs.Records.{one_note}
use Rattle.faults.proofs.one_note.Goals as goal

pub returns-else-place-lt-NOTES : goal.returns-else-place-lt-NOTES
unfolding one_note
returns-else-place-lt-NOTES c = sym (set_out (replicate (capacity * threads) 0) c.args.place c.args.note (omega arith))
