-- The number is read, and what follows is read by the form that the table has for it.
use Rattle.std.proofs.Common.{sym, ◌∙◌}
use Rattle.format.specs.Format.{start_by, object, start}
use Rattle.format.proofs.Reading.{reads_refuse, reads_then}
use Rattle.format.proofs.cursor.Cursor.start.Goals as goal

pub returns-in-Unknown : goal.returns-in-Unknown
unfolding start object start_by
returns-in-Unknown c = reads_then object c.number.ensures c.in_ok-number.was (rw (sym c.start_form.ensures ∙ c.in-Unknown.is) (reads_refuse _ _))

pub returns-in-Number : goal.returns-in-Number
unfolding start object start_by
returns-in-Number c = reads_then object c.number.ensures c.in_ok-number.was (rw (sym c.start_form.ensures ∙ c.in-Number.is) c.single_start.ensures)

pub returns-in-Flagged : goal.returns-in-Flagged
unfolding start object start_by
returns-in-Flagged c = reads_then object c.number.ensures c.in_ok-number.was (rw (sym c.start_form.ensures ∙ c.in-Flagged.is) c.single_start-in-Flagged.ensures)

pub returns-in-Values : goal.returns-in-Values
unfolding start object start_by
returns-in-Values c = reads_then object c.number.ensures c.in_ok-number.was (rw (sym c.start_form.ensures ∙ c.in-Values.is) c.counted_start.ensures)
