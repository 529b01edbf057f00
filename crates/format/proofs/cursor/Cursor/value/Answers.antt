-- A value is a number.
use Rattle.values.specs.Value.{signed}
use Rattle.format.specs.Format.{value}
use Rattle.format.proofs.Reading.{reads_made}
use Rattle.format.proofs.Starting.{told}
use Rattle.format.proofs.cursor.Cursor.value.Goals as goal

pub returns : goal.returns
unfolding value
returns c =
    let n = c.in_ok-number.field-0 in
    rw (told c.signed_of.result n c.signed_of.type_inv c.signed_of.ensures) (reads_made signed c.number.ensures c.in_ok-number.was)
