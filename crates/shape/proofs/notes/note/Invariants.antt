-- The notes are written thread by thread.
use Rattle.std.proofs.Common.{◌≡◌}
use Rattle.shape.specs.Notes.{notes_with}
use Rattle.shape.proofs.notes.note.Given as goal

abbrev pub invariant-loop-u : goal.invariant-loop-u
invariant-loop-u l = l.notes ≡ notes_with l.done l.own l.at l.initial.notes l.u
