-- The notes are those of an invocation that is taken, and else stay.
use Rattle.std.proofs.Common.{Bool, sym, ap, ◌∙◌, arith}
use Rattle.stepping.specs.EventSteps.{invoke_of}
use Rattle.stepping.specs.Shape.{shaped_with}
use Rattle.recording.specs.Testers.{shaped_tester}
use Rattle.recording.proofs.Noting.{taken_in, invoked_yes, invoked_no}
use Rattle.recording.proofs.linearizability.LinearizabilityTesterConsistencyTester.on_invoke.Goals as goal
use Rattle.recording.proofs.linearizability.LinearizabilityTesterConsistencyTester.on_invoke.Goals.{then-is_ok, else-is_ok}

pub overflow_cast-thread : goal.overflow_cast-thread
overflow_cast-thread c =
    let t = c.args.self in
    let e = c.record_event-step.ensures ∙ ap (λ (b : Bool). invoke_of (shaped_with b t.history) t.history c.args.thread c.args.op) c.noted-shaped.ensures in
    omega (arith, (taken_in (shaped_tester t) t.history c.args.thread c.args.op _ e (sym c.is_ok.ensures.value ∙ c.if-is_ok.true)).1)

pub returns : goal.returns
returns c =
    let t = c.args.self in
    let e = c.record_event-step.ensures ∙ ap (λ (b : Bool). invoke_of (shaped_with b t.history) t.history c.args.thread c.args.op) c.noted-shaped.ensures in
    elim c.if-is_ok.branch [
      | then-is_ok w ↦ invoked_yes t c.args.thread c.args.op _ e (sym c.is_ok.ensures.value ∙ w.if-is_ok.true) _ (w.notes-is ∙ w.note.ensures)
      | else-is_ok w ↦ rw w.notes-is (invoked_no t c.args.thread c.args.op _ e (sym c.is_ok.ensures.value ∙ w.if-is_ok.false))
    ]
