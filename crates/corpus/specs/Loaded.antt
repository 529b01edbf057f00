-- What loading comes to, told without the loader.
use Prim.Native.Nat.{ℕ, ◌+◌, ◌<◌}
use Rattle.std.specs.Prelude.{◌≡◌, ◌≢◌, length, drop}
use mathlib.Core.List.{List, [], ◌∷◌}
use Rattle.history.specs.Events.{Event, Events}
use Rattle.families.specs.Families.{families}
use Rattle.families.specs.declared.Kind.{Kind}
use Rattle.stepping.specs.EventSteps.{number_of as recorded_number}
use Rattle.recording_meaning.specs.Models.{Model}
use Rattle.numbers.specs.declared.refusal.Refusal.{Refusal}
use Rattle.numbers.specs.FileRefusals.{number_of}
use Rattle.numbers.specs.Reader.{got, refused}
use Rattle.format.specs.Format.{event}
use Rattle.corpus.specs.Load.{Load, record_event, record_events, load}
use Rattle.format.specs.Spelling.{Spells}

module _ (M : Model) where
  -- Every event draws 0.
  abbrev pub AllRecorded : M.Tester → Events families → Type 0
  AllRecorded t [] = Unit {0}
  AllRecorded t (v ∷ l) = (recorded_number (record_event M t v).0 ≡ 0) × AllRecorded (record_event M t v).1 l

  module _ (k : Kind) (s : List ℕ) (at : ℕ) (t : M.Tester) (result : Load M) where
    -- What loading the bytes s into the tester t comes to, where the first of them is byte `at` of the file: l are the events before the end,
    -- or before the one that is refused, all recorded, and they take n bytes.
    pub data Outcome : Type 0 where
      -- to the end
      ended : (l : Events families) (n : ℕ) → Spells k s l n → AllRecorded t l → n ≡ length s → result ≡ load M 0 0 (record_events M t l) → Outcome
      -- the next event can't be read
      unread : (l : Events families) (n : ℕ) → Spells k s l n → AllRecorded t l → n < length s → (why : Refusal)
          → event k (drop n s) ≡ refused why → result ≡ load M (number_of why) (at + n) (record_events M t l) → Outcome
      -- the next event is read, and recording refuses it
      unrecorded : (l : Events families) (n : ℕ) → Spells k s l n → AllRecorded t l → n < length s → (v : Event families) (used : ℕ)
          → event k (drop n s) ≡ got v used → recorded_number (record_event M (record_events M t l) v).0 ≢ 0
          → result ≡ load M (recorded_number (record_event M (record_events M t l) v).0) (at + n) (record_event M (record_events M t l) v).1 → Outcome
