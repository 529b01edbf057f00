-- What the code works out of an event on its way, in the code's own steps. What counts stands in EventSteps; Admitting ties these to it.
use Rattle.std.specs.Prelude.{ℕ, ◌<◌, ◌≡◌, Bool, true, List, get_or, ltb, Option, Some, None, Result, Ok, Err, is_ok}
use Rattle.values.specs.Value.{pick}
use Rattle.values.specs.Sizes.{threads, capacity}
use Rattle.stepping.specs.declared.histories.History.{History}
use Rattle.stepping.specs.declared.recorded.Reason.TheVariants.{AlreadyInvalid, NoSuchThread, NotOwn, InFlight, NothingInFlight, Full, OutOfShape}
use Rattle.stepping.specs.Record.{find_flying}
use Rattle.stepping.specs.EventSteps.{unless}
use Rattle.values.specs.declared.refusal.Refusal.{Refusal}
use Rattle.stepping.specs.declared.recorded.Reason.{Reason}

-- where thread t has its operation in flight, by the marks of all threads, and that place as a number

unfoldable pub place_in : List (Option ℕ) → ℕ → Option ℕ
place_in flying t = pick (ltb t threads) (get_or flying t None) None

unfoldable pub place_at : Option ℕ → ℕ
place_at (Some i) = i
place_at None = 0

-- what an event comes to, from what is known of the history: the refusals in their order

unfoldable pub checked_of : Result Unit Refusal → Result Unit Reason
checked_of (Ok tt) = Ok tt
checked_of (Err r) = Err (NotOwn r)

unfoldable pub admit_by : Bool → Bool → Bool → Result Unit Refusal → Result Unit Reason
admit_by shaped valid known own =
    unless shaped (Err OutOfShape) (unless valid (Err AlreadyInvalid) (unless known (Err NoSuchThread) (checked_of own)))

unfoldable pub admit_of : Bool → Bool → ℕ → Result Unit Refusal → Result Unit Reason
admit_of shaped valid t own = admit_by shaped valid (ltb t threads) own

abbrev pub invoke_go : Option ℕ → Bool → Result Unit Reason
invoke_go (Some i) room = Err InFlight
invoke_go None room = unless room (Err Full) (Ok tt)

unfoldable pub invoke_check : Result Unit Reason → Option ℕ → ℕ → Result Unit Reason
invoke_check first place count = pick (is_ok first) (invoke_go place (ltb count capacity)) first

abbrev pub return_go : Option ℕ → Result Unit Reason
return_go (Some i) = Ok tt
return_go None = Err NothingInFlight

unfoldable pub return_check : Result Unit Reason → Option ℕ → Result Unit Reason
return_check first place = pick (is_ok first) (return_go place) first

-- What is known of a history before an event: whether it is in shape and, where it is, by a mark for each thread the place of its operation in flight.
pub record Known (shaped : Bool) (h : History) (ok : Bool) (flying : List (Option ℕ)) : Type 0 where
  pub ok_is : ok ≡ shaped
  pub places : shaped ≡ true → (t : ℕ) → t < threads → get_or flying t None ≡ find_flying t h
