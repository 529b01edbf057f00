-- A tester of a header's object is made, and not refused.
use Rattle.std.specs.Prelude.{ℕ, ◌≡◌, List, Ok}
use Rattle.families.specs.declared.Object.{Object}
use Rattle.recording_meaning.specs.Models.{Model}
use Rattle.recording_meaning.specs.Meaning.{Means}
use Rattle.numbers.specs.Reader.{got}
use Rattle.format.specs.Format.{header}
use Rattle.families.specs.RefusalsExactly.{start_exactly}
use Rattle.format.specs.FileSays.{header_clear}

pub made_new : (M : Model) → Means M → (s : List ℕ) (o : Object) (n : ℕ) → header s ≡ got o n → M.made o ≡ Ok tt
made_new M means s o n e = (means.new_number o (Ok tt)).1 ((start_exactly o.kind (Ok tt)).0 (header_clear s o n e))
