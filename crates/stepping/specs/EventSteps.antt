-- What an event comes to and leaves, with the refusals in document 01's order: 9, 1, 2, 3, then 4 or 5, then 6.
use Rattle.std.specs.Prelude.{ℕ, ◌≡◌, Bool, true, false, ltb, Option, Some, None, Result, Ok, Err}
use Rattle.values.specs.Value.{pick}
use Rattle.values.specs.Sizes.{threads, capacity}
use Rattle.families.specs.Objects.{stand_in}
use Rattle.values.specs.Checks.{number_of as refusal_number}
use Rattle.families.specs.Refusals.{op_belongs, ret_belongs, start_check}
use Rattle.families.specs.declared.Object.{Object}
use Rattle.families.specs.declared.Op.{Op}
use Rattle.families.specs.declared.Ret.{Ret}
use Rattle.stepping.specs.declared.histories.History.{History}
use Rattle.stepping.specs.declared.recorded.Reason.{Reason}
use Rattle.stepping.specs.declared.recorded.Reason.TheVariants.{AlreadyInvalid, NoSuchThread, NotOwn, InFlight, NothingInFlight, Full, OutOfShape}
use Rattle.stepping.specs.declared.histories.Begun.{Begun}
use Rattle.stepping.specs.declared.step.Step.{Step}
use Rattle.stepping.specs.Record.{fresh, find_flying, invalidated, extended, completed}
use Rattle.stepping.specs.Shape.{kind_of}
use Rattle.values.specs.declared.refusal.Refusal.{Refusal}

-- document 01's numbers; what the object refuses has the object's

unfoldable pub reason_number : Reason → ℕ
reason_number AlreadyInvalid = 1
reason_number NoSuchThread = 2
reason_number (NotOwn r) = refusal_number r
reason_number InFlight = 4
reason_number NothingInFlight = 5
reason_number Full = 6
reason_number OutOfShape = 9

unfoldable pub number_of : Result Unit Reason → ℕ
number_of (Ok tt) = 0
number_of (Err r) = reason_number r

unfoldable pub made_number_of : Result Unit Refusal → ℕ
made_number_of (Ok tt) = 0
made_number_of (Err r) = refusal_number r

-- n is the number of either, by what gives the number of a reason: 0 where nothing is refused
abbrev pub number_by : {R : Type 0} → (R → ℕ → Type 0) → Result Unit R → ℕ → Type 0
number_by gives (Ok tt) n = n ≡ 0
number_by gives (Err r) n = gives r n

-- 4 and 5 turn validity off for good

unfoldable pub breaks : Reason → Bool
breaks AlreadyInvalid = false
breaks NoSuchThread = false
breaks (NotOwn r) = false
breaks InFlight = true
breaks NothingInFlight = true
breaks Full = false
breaks OutOfShape = false

unfoldable pub valid_after : Bool → Result Unit Reason → Bool
valid_after valid (Ok tt) = valid
valid_after valid (Err r) = pick (breaks r) false valid

-- a refusal unless the test holds, and else what comes after it
abbrev pub unless : {A : Type 0} → Bool → A → A → A
unless b refused next = pick b next refused

-- a constructor: what the object says of being a start; where it refuses, a fresh history of the default that stands in for it

abbrev pub begun : Result Unit Refusal → History → Begun
begun m h = record { made = m; history = h }

abbrev pub begun_by : Result Unit Refusal → Object → Begun
begun_by (Ok tt) start = begun (Ok tt) (fresh start)
begun_by (Err r) start = begun (Err r) (fresh (stand_in start.kind))

unfoldable pub begun_of : Object → Begun
begun_of start = begun_by (start_check start.kind) start

-- an event

abbrev pub step : Result Unit Reason → History → Step
step r h = record { recorded = r; history = h }

-- a refusal leaves the history as it came
abbrev pub refuse : Reason → History → Step
refuse r h = step (Err r) h

-- what the object says of the operation or return, and what comes after it
abbrev pub owned : Result Unit Refusal → History → Step → Step
owned (Ok tt) h next = next
owned (Err r) h next = refuse (NotOwn r) h

-- an event of thread t, with what it comes to if it is not refused for these: 9, 1, 2, and what the object says
abbrev pub admitted : Bool → History → ℕ → Result Unit Refusal → Step → Step
admitted shaped h t own next =
    unless shaped (refuse OutOfShape h)
    (unless h.valid (refuse AlreadyInvalid h)
    (unless (ltb t threads) (refuse NoSuchThread h)
    (owned own h next)))

-- an invocation where the thread has one in flight, 4, or none, and then 6 or 0
abbrev pub invoke_by : Option ℕ → History → ℕ → Op → Step
invoke_by (Some i) h t op = step (Err InFlight) (invalidated h)
invoke_by None h t op = unless (ltb h.count capacity) (refuse Full h) (step (Ok tt) (extended h t op))

unfoldable pub invoke_of : Bool → History → ℕ → Op → Step
invoke_of shaped h t op = admitted shaped h t (op_belongs (kind_of h) op) (invoke_by (find_flying t h) h t op)

-- a return where the thread has one in flight, 0, or none, 5
abbrev pub return_by : Option ℕ → History → ℕ → Ret → Step
return_by (Some i) h t ret = step (Ok tt) (completed h i t ret)
return_by None h t ret = step (Err NothingInFlight) (invalidated h)

unfoldable pub return_of : Bool → History → ℕ → Ret → Step
return_of shaped h t ret = admitted shaped h t (ret_belongs (kind_of h) ret) (return_by (find_flying t h) h t ret)

-- how many operations are held, completed and in flight together
unfoldable pub size_of : Bool → History → ℕ
size_of shaped h = unless shaped 0 h.count
