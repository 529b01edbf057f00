-- The flag is read, and by it the answer is none, that of the number behind it, or a refusal.
use Rattle.std.proofs.Common.{ne_eqb, ◌≢◌, arith}
use Rattle.format.specs.Format.{flagged, maybe}
use Rattle.format.proofs.Reading.{reads_give, reads_refuse, reads_then}
use Rattle.format.proofs.cursor.Cursor.flagged.Goals as goal

pub returns-in-0 : goal.returns-in-0
unfolding maybe flagged
returns-in-0 c = reads_then (flagged c.args.number) c.number.ensures c.in_ok-number.was (rw (c.in-0.is, c.bare.ensures) (reads_give _ _))

pub returns-in-1 : goal.returns-in-1
unfolding maybe flagged
returns-in-1 c = reads_then (flagged c.args.number) c.number.ensures c.in_ok-number.was (rw c.in-1.is c.single.ensures)

pub returns-in_default : goal.returns-in_default
unfolding maybe flagged
returns-in_default c =
    let flag = c.in_ok-number.field-0 in
    let not_0 : flag ≢ 0 = omega arith in
    let not_1 : flag ≢ 1 = omega arith in
    reads_then (flagged c.args.number) c.number.ensures c.in_ok-number.was (simp (ne_eqb flag 0 not_0, ne_eqb flag 1 not_1) (reads_refuse _ _))
