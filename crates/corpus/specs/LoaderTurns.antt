-- What the loader works out on its way. What counts stands in Format; the proofs tie this to it.
use Rattle.std.specs.Prelude.{ℕ, ◌≡◌, Bool, true, List, Option, Some, None, Result, Ok, Err, eqb}
use Rattle.history.specs.Events.{Event}
use Rattle.values.specs.Value.{pick}
use Rattle.families.specs.Refusals.{start_check}
use Rattle.families.specs.Families.{families}
use Rattle.families.specs.declared.Kind.{Kind}
use Rattle.families.specs.declared.Object.{Object}
use Rattle.families.specs.declared.event.Event.{Event as CEvent}
use Rattle.recording.specs.declared.linearizability.LinearizabilityTester.{LinearizabilityTester}
use Rattle.stepping.specs.EventSteps.{number_of as recorded_number, valid_after}
use Rattle.shape.specs.Notes.{noted_at}
use Rattle.stepping.specs.OneStep.{comes_to, place_for}
use Rattle.recording_meaning.specs.Models.{linearizability_model}
use Rattle.corpus.specs.declared.turns.Taken.{Taken}
use Rattle.corpus.specs.declared.turns.Stopped.{Stopped}
use Rattle.numbers.specs.declared.refusal.Refusal.{Refusal}
use Rattle.numbers.specs.FileRefusals.{number_of}
use Rattle.numbers.specs.Reader.{Read, got, refused}
use Rattle.format.specs.ReadAnswers.{said}
use Rattle.stepping.specs.declared.recorded.Reason.{Reason}

-- what an event comes to at a valid tester in shape, of an object k and with so many operations; the marks say what is in flight
abbrev pub comes_by : List (Option ℕ) → Kind → ℕ → CEvent → Result Unit Reason
comes_by flying k count v = comes_to true true k flying count v

-- what loading comes to at an event: it stops, or the event is taken

abbrev pub stopped_with : ℕ → Bool → Result Taken Stopped
stopped_with number valid = Err (record { number = number; valid = valid })

abbrev pub taken_at : CEvent → ℕ → ℕ → Result Taken Stopped
taken_at v place used = Ok (record { event = v; place = place; used = used })

-- a refusal by the recording
abbrev pub refused_by : Result Unit Reason → Result Taken Stopped
refused_by r = stopped_with (recorded_number r) (valid_after true r)

-- an event that can't be read
abbrev pub unreadable : Refusal → Stopped
unreadable why = record { number = number_of why; valid = true }

abbrev pub turn_by : List (Option ℕ) → Kind → ℕ → CEvent → ℕ → Result Taken Stopped
turn_by flying k count v used =
    pick (eqb (recorded_number (comes_by flying k count v)) 0) (taken_at v (place_for v flying count) used) (refused_by (comes_by flying k count v))

unfoldable pub turn_of : List (Option ℕ) → Kind → ℕ → Read (Event families) → Result Taken Stopped
turn_of flying k count (got v used) = turn_by flying k count (said v) used
turn_of flying k count (refused why) = Err (unreadable why)

-- the notes after an event at place i, of thread `own`, that leaves that mark: those of an invocation, and for a return what stands
unfoldable pub noted_by : Option ℕ → List ℕ → ℕ → ℕ → List ℕ → List ℕ
noted_by (Some at) done own i notes = noted_at done own i notes
noted_by None done own i notes = notes

-- a tester with nothing recorded, of an object of that kind that a tester starts with
pub record Fresh (k : Kind) (t : LinearizabilityTester) : Type 0 where
  pub start : Object
  pub of_kind : k ≡ start.kind
  pub clear : start_check start.kind ≡ Ok tt
  pub new : t ≡ linearizability_model.new start
