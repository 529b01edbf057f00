-- Recording equals the Rust: after each call that the Rust knows, the tester reads as the Rust's tester after it, with the same Ok or Err and len.
use Rattle.std.specs.Prelude.{ℕ, ◌<◌, ◌≡◌, Bool, length}
use Rattle.history.specs.Rows.{Rows}
use Rattle.families.specs.Families.{families}
use Rattle.families.specs.declared.Object.{Object}
use Rattle.families.specs.declared.Op.{Op}
use Rattle.recording_meaning.specs.RustMaps.{tabled, history_entry, in_maps}
use Rattle.recording_meaning.specs.Models.{Model}
use Rattle.recording_meaning.specs.RustReading.{InRust, RustTester}

-- An invoke there takes along what is noted here.
abbrev pub TakesAlong : (M : Model) → InRust M → Type 0
TakesAlong M R = (rows : Rows families) (t : ℕ) (op : Op) → t < length rows
    → R.keeps.begun (tabled (history_entry families R.keeps R.flight) 0 rows) t op ≡ R.flight op (M.keep rows t)

module _ (M : Model) (R : InRust M) where
  abbrev pub maps : Object → Rows families → Bool → RustTester M R
  maps start rows valid = in_maps families R.keeps R.flight start rows valid
