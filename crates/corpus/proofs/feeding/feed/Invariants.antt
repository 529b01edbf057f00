-- Each turn records the event that the file has next as the tester's own call would.
use Rattle.std.proofs.Common.{◌-◌, length, drop}
use Rattle.recording_meaning.specs.Models.{linearizability_model}
use Rattle.corpus.specs.Load.{load_from}
use Rattle.corpus.proofs.Loop.{Feeding}
use Rattle.corpus.proofs.feeding.feed.Given as goal

abbrev pub invariant-loop-at : goal.invariant-loop-at
invariant-loop-at l =
    Feeding l.kind l.file (load_from linearizability_model (length l.file) l.kind (drop l.first l.file) l.first l.initial.tester) l.tester.history l.tester.notes l.flying l.at

abbrev pub decreases-loop-at : goal.decreases-loop-at
decreases-loop-at l = length l.file - l.at
