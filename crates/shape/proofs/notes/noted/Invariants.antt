-- What is left of the notes fits exactly if all do.
use Rattle.std.proofs.Common.{◌≡◌, drop}
use Rattle.stepping.specs.Record.{held}
use Rattle.stepping.specs.Shape.{notes_fit_from}
use Rattle.shape.proofs.notes.noted.Given as goal

abbrev pub invariant-loop-i : goal.invariant-loop-i
invariant-loop-i l =
    notes_fit_from l.fn.history.done l.notes l.i (drop l.i (held l.fn.history)) ≡ notes_fit_from l.fn.history.done l.notes 0 (held l.fn.history)
