-- What has the form is read, and the object is what the table starts with those numbers.
use Rattle.families.specs.Codes.{start_from}
use Rattle.families.specs.Objects.{zeros}
use Rattle.format.specs.Format.{single_start}
use Rattle.format.proofs.Reading.{reads_made}
use Rattle.format.proofs.cursor.Cursor.single_start.Goals as goal

pub returns : goal.returns
unfolding single_start
returns c = rw c.start_from.ensures (reads_made (λ x. start_from x zeros) c.payload.ensures c.in_ok-coded.was)
