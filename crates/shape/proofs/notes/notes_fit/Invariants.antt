-- Each thread's note is held to what it can be.
use Rattle.std.proofs.Common.{true, ◌≡◌}
use Rattle.std.specs.Prelude.{leb}
use Rattle.std.proofs.Math.ListN.{get_or}
use Rattle.stepping.specs.Shape.{all_below, note_at, notable}
use Rattle.shape.proofs.notes.notes_fit.Given as goal

abbrev pub invariant-loop-u : goal.invariant-loop-u
invariant-loop-u l = all_below (λ v. leb (note_at l.notes l.at v) (notable (get_or l.done v 0) l.own v)) l.u ≡ true
