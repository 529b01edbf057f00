-- The count is read and judged, and then so many values are read.
use Rattle.std.proofs.Common.{lt-ltb, le-ltb}
use Rattle.format.specs.Format.{counted, counted_start}
use Rattle.format.proofs.Reading.{reads_refuse, reads_then}
use Rattle.format.proofs.cursor.Cursor.counted_start.Goals as goal

pub returns-then-count-gt-START : goal.returns-then-count-gt-START
unfolding counted_start counted
returns-then-count-gt-START c =
    reads_then (counted c.args.number) c.number.ensures c.in_ok-count.was (simp (lt-ltb _ _ c.if-count-gt-START.true) (reads_refuse _ _))

pub returns : goal.returns
unfolding counted_start counted
returns c =
    reads_then (counted c.args.number) c.number.ensures c.in_ok-count.was (simp (le-ltb _ _ c.if-count-gt-START.false) c.values.ensures)
