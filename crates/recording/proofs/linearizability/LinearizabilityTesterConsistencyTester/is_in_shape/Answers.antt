-- The pass over the history answers, with what the notes say.
use Rattle.std.proofs.Common.{Bool, ap, ◌∙◌}
use Rattle.stepping.specs.Shape.{shaped_with}
use Rattle.shape.specs.Marking.{looks}
use Rattle.recording.proofs.linearizability.LinearizabilityTesterConsistencyTester.is_in_shape.Goals as goal

pub returns : goal.returns
returns c =
    c.is_some.ensures ∙ (looks _ _ _ c.look_at.ensures).ok_is
    ∙ ap (λ (b : Bool). shaped_with b c.args.self.now.history) c.noted-shaped.ensures
