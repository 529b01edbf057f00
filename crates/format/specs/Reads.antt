-- What a step of the code's cursor reads.
use Rattle.std.specs.Prelude.{ℕ, ◌≡◌, Result, Ok, Err}
use Rattle.numbers.specs.declared.refusal.Refusal.{Refusal}
use Rattle.numbers.specs.Reader.{Read, got, refused, Reader, from}
use Rattle.format.specs.declared.cursor.Cursor.{Cursor}

-- an answer of the code, and the place behind it
abbrev pub read_as : {A : Type 0} → Result A Refusal → ℕ → Read A
read_as (Ok a) next = got a next
read_as (Err why) next = refused why

-- That field is read where the cursor stood, and the cursor then stands behind it; where the field is refused, no place is told.
pub record Reads {A : Type 0} (f : Reader A) (old new : Cursor) (r : Result A Refusal) : Type 0 where
  pub same : new.bytes ≡ old.bytes
  pub said : from f old.bytes.now old.at ≡ read_as r new.at
