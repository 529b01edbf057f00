-- The pass over the history answers alone.
use Rattle.std.proofs.Common.{◌∙◌}
use Rattle.shape.specs.Marking.{looks}
use Rattle.recording.proofs.sequential_consistency.SequentialConsistencyTesterConsistencyTester.is_in_shape.Goals as goal

pub returns : goal.returns
returns c = c.is_some.ensures ∙ (looks _ _ _ c.look_at.ensures).ok_is
