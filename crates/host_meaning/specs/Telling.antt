-- What the verdict in an answer's first byte says of a file, in the words of the two papers and with no tester in between.
use Rattle.std.specs.Prelude.{ℕ, ◌≤◌, ◌<◌, ◌≡◌, ◌↔◌, List, get_or}
use Rattle.history.specs.Events.{Events}
use Rattle.families.specs.Families.{State, families}
use Rattle.semantics.specs.Invoking.{holds}
use Rattle.recording_meaning.specs.Models.{Model}
use Rattle.recording_meaning.specs.Inputs.{as_inputs}
use Rattle.judging_meaning.specs.Judging.{needed}
use Rattle.judging_meaning.specs.VerdictsOneWay.{fed}
use Rattle.corpus.specs.Files.{Whole}
use Rattle.host.specs.Call.{call_answer}

-- The first byte of the buffer after the call.
abbrev pub verdict_byte : List ℕ → ℕ → ℕ → List ℕ → ℕ
verdict_byte file model budget answer = get_or (call_answer file model budget answer) 0 0

-- A whole capture is a file that is read to its end and whose every event is recorded.
module _ (M : Model) (file : List ℕ) where
  -- The attempts of the search without a budget on what it records.
  abbrev pub attempts_of : Whole M file → ℕ
  attempts_of c = needed M (fed M c.start (as_inputs c.events))

  module _ (Meets : State → Events families → Type 0) where
    -- The events that it spells, from the object of its header on, meet the model.
    abbrev pub Met : Whole M file → Type 0
    Met c = Meets (holds c.start) c.events

    pub record Tells (budget verdict : ℕ) : Type 0 where
      -- green exactly if the file is a whole capture, the budget covers the search, and the events meet the model
      pub green : (verdict ≡ 0) ↔ ((c : Whole M file) × (attempts_of c ≤ budget) × Met c)
      -- No order exactly if it is whole, the budget covers the search, and they do not
      pub no_order : (verdict ≡ 1) ↔ ((c : Whole M file) × (attempts_of c ≤ budget) × (Met c → ⊥))
      -- Undecided exactly if it is whole, and the budget falls short
      pub undecided : (verdict ≡ 2) ↔ ((c : Whole M file) × (budget < attempts_of c))
