-- What the number of an event tells: 0 that it is taken, 4 or 5 that the history is no longer valid.
use Rattle.std.specs.Prelude.{ℕ, ◌≡◌, refl, true, false, ◌↔◌, ◌≢◌, ◌⊎◌, Result, Ok, Err, is_ok}
use Rattle.std.proofs.Common.{inl, inr, ⊎_elim, arith}
use Rattle.families.specs.Room.{not_event}
use Rattle.stepping.specs.declared.recorded.Reason.{Reason}
use Rattle.stepping.specs.declared.recorded.Reason.TheVariants.{AlreadyInvalid, NoSuchThread, NotOwn, InFlight, NothingInFlight, Full, OutOfShape}
use Rattle.values.specs.Checks.{number_of as refusal_number}
use Rattle.values.specs.declared.refusal.Refusal.{Refusal}
use Rattle.stepping.specs.EventSteps.{reason_number, number_of, made_number_of, number_by, breaks}

-- no refusal has the number 0
pub refused_some : (r : Reason) → reason_number r ≡ 0 → ⊥
unfolding reason_number
refused_some AlreadyInvalid e = omega arith
refused_some NoSuchThread e = omega arith
refused_some (NotOwn r) e = (not_event r).0 e
refused_some InFlight e = omega arith
refused_some NothingInFlight e = omega arith
refused_some Full e = omega arith
refused_some OutOfShape e = omega arith

pub zero_taken : (r : Result Unit Reason) → number_of r ≡ 0 → r ≡ Ok tt
unfolding number_of
zero_taken (Ok tt) e = refl
zero_taken (Err r) e = absurd (refused_some r e)

pub taken_number : (r : Result Unit Reason) → number_of r ≡ 0 → is_ok r ≡ true
unfolding number_of
taken_number (Ok tt) e = refl
taken_number (Err r) e = absurd (refused_some r e)

pub refused_number : (r : Result Unit Reason) → number_of r ≢ 0 → is_ok r ≡ false
unfolding number_of
refused_number (Ok tt) d = absurd (d refl)
refused_number (Err r) d = refl

-- a reason breaks the history exactly if its number is 4 or 5
pub breaks_number : (r : Reason) → (reason_number r ≡ 4) ⊎ (reason_number r ≡ 5) ↔ breaks r ≡ true
unfolding reason_number breaks
breaks_number AlreadyInvalid = (⊎_elim (λ e. absurd (omega arith)) (λ e. absurd (omega arith)), λ e. absurd (let z : ◌≡◌ {A = ℕ} 0 1 = cc in omega arith))
breaks_number NoSuchThread = (⊎_elim (λ e. absurd (omega arith)) (λ e. absurd (omega arith)), λ e. absurd (let z : ◌≡◌ {A = ℕ} 0 1 = cc in omega arith))
breaks_number (NotOwn r) = (⊎_elim (λ e. absurd ((not_event r).1.0 e)) (λ e. absurd ((not_event r).1.1 e)), λ e. absurd (let z : ◌≡◌ {A = ℕ} 0 1 = cc in omega arith))
breaks_number InFlight = (λ e. refl, λ e. inl refl)
breaks_number NothingInFlight = (λ e. refl, λ e. inr refl)
breaks_number Full = (⊎_elim (λ e. absurd (omega arith)) (λ e. absurd (omega arith)), λ e. absurd (let z : ◌≡◌ {A = ℕ} 0 1 = cc in omega arith))
breaks_number OutOfShape = (⊎_elim (λ e. absurd (omega arith)) (λ e. absurd (omega arith)), λ e. absurd (let z : ◌≡◌ {A = ℕ} 0 1 = cc in omega arith))

-- what `number` hands back: the number of what an event came to, or a start

pub number_is : (r : Result Unit Reason) (n : ℕ) → number_by (λ (r : Reason) (n : ℕ). n ≡ reason_number r) r n → n ≡ number_of r
unfolding number_of
number_is (Ok tt) n e = e
number_is (Err r) n e = e

pub made_number_is : (r : Result Unit Refusal) (n : ℕ) → number_by (λ (r : Refusal) (n : ℕ). n ≡ refusal_number r) r n → n ≡ made_number_of r
unfolding made_number_of
made_number_is (Ok tt) n e = e
made_number_is (Err r) n e = e
