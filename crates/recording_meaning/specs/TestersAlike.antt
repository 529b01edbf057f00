-- Fed the same inputs, the two testers draw the same numbers and record the same events, and the sequential tester's rows are the linearizability
-- tester's without their notes.
use Rattle.std.specs.Prelude.{◌≡◌, true, is_ok}
use Rattle.history.specs.Rows.{forget}
use Rattle.values.specs.Value.{pick}
use Rattle.families.specs.Families.{families}
use Rattle.families.specs.declared.Object.{Object}
use Rattle.stepping.specs.declared.histories.History.{History}
use Rattle.stepping.specs.declared.step.Step.{Step}
use Rattle.stepping.specs.EventSteps.{invoke_of, return_of}
use Rattle.recording_meaning.specs.Models.{tester_rows, sequential_model, linearizability_model}
use Rattle.recording_meaning.specs.Inputs.{Input, invoke, return, invret, Inputs, feed, drawn, taken}

-- what an input comes to is a matter of the history alone

abbrev pub step_of : History → Input → Step
step_of h (invoke t op) = invoke_of true h t op
step_of h (return t ret) = return_of true h t ret
step_of h (invret t op ret) =
    pick (is_ok (invoke_of true h t op).recorded) (return_of true (invoke_of true h t op).history t ret) (invoke_of true h t op)

pub record Alike (start : Object) (l : Inputs) : Type 0 where
  pub same_numbers : drawn sequential_model (sequential_model.new start) l ≡ drawn linearizability_model (linearizability_model.new start) l
  pub same_events : taken sequential_model (sequential_model.new start) l ≡ taken linearizability_model (linearizability_model.new start) l
  pub forgets : tester_rows sequential_model (feed sequential_model (sequential_model.new start) l)
      ≡ forget families (tester_rows linearizability_model (feed linearizability_model (linearizability_model.new start) l))
