-- What is left to read from where the loop stands says the same values as the whole: each turn reads one more into its place.
use Rattle.std.proofs.Common.{◌-◌}
use Rattle.families.specs.Objects.{zeros}
use Rattle.format.specs.Format.{values_from}
use Rattle.format.proofs.Starting.{Left}
use Rattle.format.proofs.cursor.Cursor.values.Given as goal

abbrev pub invariant-loop-place : goal.invariant-loop-place
invariant-loop-place l = Left (values_from l.count 0 zeros) l.fn.self (values_from (l.count - l.place) l.place l.items) l.self
