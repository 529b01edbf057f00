-- What is read is one number, and nothing else is made of it than the word.
use Rattle.values.specs.Coded.{coded}
use Rattle.format.specs.Format.{single}
use Rattle.format.proofs.Reading.{reads_made}
use Rattle.format.proofs.cursor.Cursor.single.Goals as goal

pub returns : goal.returns
unfolding single
returns c = rw c.single.ensures (reads_made (coded c.args.number 1) c.number.ensures c.in_ok-word.was)
