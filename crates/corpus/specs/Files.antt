-- A file that is whole: it is read to its end, and every event is recorded.
use Prim.Native.Nat.{ℕ}
use Rattle.std.specs.Prelude.{◌≡◌, length, drop}
use mathlib.Core.List.{List}
use Rattle.history.specs.Events.{Events}
use Rattle.families.specs.Families.{families}
use Rattle.families.specs.declared.Object.{Object}
use Rattle.recording_meaning.specs.Models.{Model}
use Rattle.numbers.specs.Reader.{got}
use Rattle.format.specs.Format.{header}
use Rattle.format.specs.Spelling.{Spells}
use Rattle.corpus.specs.Loaded.{AllRecorded}

module _ (M : Model) where
  -- The file is read to its end, and every event draws 0.
  pub record Whole (s : List ℕ) : Type 0 where
    pub start : Object
    pub first : ℕ
    pub events : Events families
    pub head : header s ≡ got start first
    pub spelled : Spells start.kind (drop first s) events (length (drop first s))
    pub recorded : AllRecorded M (M.new start) events
