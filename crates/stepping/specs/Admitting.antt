-- The code's steps of an event come to what the definitions say.
use Rattle.std.specs.Prelude.{ℕ, ◌<◌, ◌≤◌, ◌≡◌, get_or, Option, Some, None}
use Rattle.values.specs.Sizes.{threads, capacity}
use Rattle.families.specs.declared.event.Event.{Event}
use Rattle.families.specs.declared.event.Event.TheVariants.{Invoked, Returned}
use Rattle.stepping.specs.declared.histories.History.{History}
use Rattle.stepping.specs.Record.{find_flying}
use Rattle.stepping.specs.OneStep.{thread_of}

-- An event by its parts: what the object says of it, its second reason, and what it comes to and leaves where that is in flight.

-- What a taken event finds: of its thread nothing is in flight, or an operation at that place.
abbrev pub flying_for : Event → ℕ → Option ℕ
flying_for (Invoked t op) i = None
flying_for (Returned t ret) i = Some i

-- What is known of an event that is taken, with its operation at place i.
pub record Fits (h : History) (v : Event) (i : ℕ) : Type 0 where
  pub known : thread_of v < threads
  pub room : i < capacity
  pub few : get_or h.done (thread_of v) 0 ≤ capacity
  pub found : find_flying (thread_of v) h ≡ flying_for v i
