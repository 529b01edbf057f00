-- Each turn goes where the machine of the walk goes: placed, turned away, or back over a level.
use Rattle.std.proofs.Common.{◌+◌, ◌*◌, ◌-◌}
use Rattle.recording_meaning.specs.Reading.{notes_of}
use Rattle.judging.specs.Playing.{situation}
use Rattle.judging.specs.SearchRunning.{Running}
use Rattle.judging.proofs.search.run.Given as goal

abbrev pub invariant-loop-left : goal.invariant-loop-left
invariant-loop-left l =
    Running (notes_of l.notes) l.index.history.now l.budget l.index.started l.path l.levels l.depth (situation l.items l.held l.progress) l.left l.next l.attempts

abbrev pub decreases-loop-left : goal.decreases-loop-left
decreases-loop-left l =
    (l.budget - l.attempts) * 2 + l.depth
