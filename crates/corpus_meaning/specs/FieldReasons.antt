-- No field of a file is refused for the file's length or its opening.
use Rattle.std.specs.Prelude.{ℕ, refl, Bool, true, false, List, drop}
use Rattle.values.specs.Value.{pick}
use Rattle.numbers.specs.declared.refusal.Refusal.TheVariants.{TooLong, Unopened, Cut, TooBig, Unknown, StartTooDeep}
use Rattle.numbers.specs.Reader.{Read, got, refused, Reader, later, from, give, refuse, behind, ◌then◌}
use Rattle.numbers.specs.Number.{number}
use Rattle.numbers.specs.Forms.{When}
use Rattle.numbers.proofs.NumberExactly.{number_exactly}
use Rattle.format.specs.Taking.{OfField, Built, one_number, no_bytes, never, either, next_to, fewer}

-- What is read, if it is refused, is refused for a reason of its own.
abbrev pub Fine : {A : Type 0} → Read A → Type 0
Fine (got a used) = Unit {0}
Fine (refused why) = OfField why

number_fine : (s : List ℕ) (r : Read ℕ) → When s r → Fine r
number_fine s (got n used) w = tt
number_fine s (refused TooLong) w = w
number_fine s (refused Unopened) w = w
number_fine s (refused Cut) w = tt
number_fine s (refused TooBig) w = tt
number_fine s (refused Unknown) w = tt
number_fine s (refused StartTooDeep) w = tt

later_fine : {A : Type 0} (n : ℕ) (r : Read A) → Fine r → Fine (later n r)
later_fine n (got a used) h = tt
later_fine n (refused why) h = h

pub from_fine : {A : Type 0} (f : Reader A) → ((s : List ℕ) → Fine (f s)) → (s : List ℕ) (at : ℕ) → Fine (from f s at)
unfolding from
from_fine f F s at = later_fine at (f (drop at s)) (F (drop at s))

pick_fine : {A : Type 0} (b : Bool) (f g : Reader A) (s : List ℕ) → Fine (f s) → Fine (g s) → Fine (pick b f g s)
pick_fine true f g s F G = F
pick_fine false f g s F G = G

behind_fine : {A B : Type 0} (g : A → Reader B) → ((a : A) (s : List ℕ) → Fine (g a s)) → (s : List ℕ) (r : Read A) → Fine r → Fine (behind g s r)
behind_fine g G s (got a used) h = from_fine (g a) (G a) s used
behind_fine g G s (refused why) h = h

pub built_fine : {A : Type 0} {n : ℕ} {f : Reader A} → Built n f → (s : List ℕ) → Fine (f s)
unfolding give refuse ◌then◌
built_fine one_number s = number_fine s (number s) ((number_exactly s (number s)).0 refl)
built_fine (no_bytes a) s = tt
built_fine (never A why n h) s = h
built_fine (either n b f g F G) s = pick_fine b f g s (built_fine F s) (built_fine G s)
built_fine (next_to m n f g F G) s = behind_fine g (λ a t. built_fine (G a) t) s (f s) (built_fine F s)
built_fine (fewer f least F n h) s = built_fine F s
