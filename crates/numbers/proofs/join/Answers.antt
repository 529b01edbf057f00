-- The group lies above what is there, so that joining them by bits is their sum.
use Rattle.numbers.proofs.Groups.{joined}
use Rattle.numbers.proofs.join.Goals as goal

pub returns : goal.returns
returns c = joined c.args.value c.args.g c.args.i c.requires.0 c.requires.1 c.requires.2
