-- The notes are met if each thread's is.
use Rattle.std.proofs.Common.{ℕ, ◌≤◌, ◌<◌}
use Rattle.std.proofs.Math.ListN.{get_or}
use Rattle.stepping.specs.Shape.{note_at}
use Rattle.judging.proofs.search.allowed.Given as goal

abbrev pub invariant-loop-u : goal.invariant-loop-u
invariant-loop-u l = (v : ℕ) → v < l.u → note_at l.notes l.at v ≤ get_or l.progress v 0
