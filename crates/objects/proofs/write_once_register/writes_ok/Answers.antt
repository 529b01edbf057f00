-- The bits are equal exactly where the values are.
use Rattle.std.proofs.Common.{rules}
use Rattle.values.specs.Bits.{eq_z_bits}
use Rattle.objects.specs.WriteOnce.{writes}
use Rattle.objects.proofs.write_once_register.writes_ok.Goals as goal

pub returns-in-Some : goal.returns-in-Some
unfolding writes
returns-in-Some c = rw c.in-Some.is (eq_z_bits c.in-Some.x c.args.v (search rules) c.ranges.v)
