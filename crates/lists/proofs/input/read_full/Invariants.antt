-- No more is read than there is room for.
use Rattle.std.proofs.Common.{◌≤◌, length}
use Rattle.lists.proofs.input.read_full.Given as goal

abbrev pub invariant-loop : goal.invariant-loop
invariant-loop g l = l.at ≤ length l.storage
