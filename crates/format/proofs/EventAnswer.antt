-- An event as the code has it.
use Rattle.std.proofs.Common.{◌≡◌, refl, sym, ap, List, ℕ}
use Rattle.history.specs.Events.{Event}
use Rattle.families.specs.Families.{families}
use Rattle.families.specs.declared.Kind.{Kind}
use Rattle.numbers.specs.Reader.{Read, got, refused, give, behind, ◌then◌, as_read}
use Rattle.format.specs.Format.{event}
use Rattle.format.specs.ReadAnswers.{said, event_said, as_event}
use Rattle.format.specs.Fields.{from_give}

pub event_answer : (k : Kind) (s : List ℕ) → as_event (event k s) ≡ as_read (event_said k s)
unfolding ◌then◌
event_answer k s = go (event k s)
  where
    go : (r : Read (Event families)) → as_event r ≡ as_read (behind (λ v. give (said v)) s r)
    go (got v used) = ap as_read (sym (from_give s used (said v)))
    go (refused why) = refl
