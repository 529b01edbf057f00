-- How many bytes events and headers take.
use Rattle.std.specs.Prelude.{ℕ, zero, suc, ◌+◌, ◌/◌, ◌%◌, ◌≤◌, ◌≡◌, refl, Bool, true, false, List, ℤ, ltb, eqb, length, take, set}
use Rattle.std.proofs.Common.{ap, arith, add-zero, ltb-false, length-take}
use Rattle.history.specs.Events.{invoked, returned}
use Rattle.values.specs.Value.{pick, signed}
use Rattle.values.specs.Sizes.{start_room}
use Rattle.families.specs.Family.{family_of}
use Rattle.values.specs.Coded.{coded}
use Rattle.families.specs.Codes.{op_form, op_from, ret_form, ret_from, start_form, start_from}
use Rattle.families.specs.Objects.{zeros}
use Rattle.values.specs.declared.coded.Coded.{Coded}
use Rattle.values.specs.declared.coded.Form.{Form}
use Rattle.values.specs.declared.coded.Form.TheVariants.{Unknown as NoForm, Bare, Number, Flagged}
use Rattle.values.specs.declared.coded.StartForm.{StartForm}
use Rattle.values.specs.declared.coded.StartForm.TheVariants.{Unknown as NoStart, Number as StartNumber, Flagged as StartFlagged, Values}
use Rattle.families.specs.declared.Kind.{Kind}
use Rattle.families.specs.declared.Object.{Object}
use Rattle.numbers.specs.declared.refusal.Refusal.TheVariants.{TooLong, Unopened, Unknown, StartTooDeep}
use Rattle.numbers.specs.Reader.{got, refused, Reader, from, give, refuse, ◌then◌}
use Rattle.numbers.specs.Number.{number}
use Rattle.format.specs.Format.{value, single, flagged, maybe, payload, single_start, values_from, values, counted, counted_start, start_by, object, start, opening, opens, longest, header, operation_of, answer_of, operation, answer, event_of, event}
use Rattle.format.specs.SameBytes.{same_true}
use Rattle.format.specs.Taking.{Takes, Field, from_takes, Built, one_number, no_bytes, never, either, next_to, fewer, built_field}

made_built : {A B : Type 0} (n : ℕ) (f : Reader A) (h : A → B) → Built n f → Built n (f then λ a. give (h a))
made_built n f h F = rw (add-zero n) at (next_to n 0 f (λ a. give (h a)) F (λ a. no_bytes (h a)))

value_built : Built 1 value
unfolding value
value_built = made_built 1 number signed one_number

single_built : (n : ℕ) → Built 1 (single n)
unfolding single
single_built n = made_built 1 number (λ w. coded n 1 w) one_number

flagged_built : (n flag : ℕ) → Built 0 (flagged n flag)
unfolding flagged
flagged_built n flag =
    either 0 (eqb flag 0) (give (coded n 0 0)) _ (no_bytes (coded n 0 0))
    (either 0 (eqb flag 1) (single n) (refuse Unknown) (fewer (single n) 1 (single_built n) 0 (omega arith)) (never Coded Unknown 0 tt))

maybe_built : (n : ℕ) → Built 1 (maybe n)
unfolding maybe
maybe_built n = next_to 1 0 number (flagged n) one_number (flagged_built n)

-- what follows the number of an operation or a return may be nothing
payload_built : (n : ℕ) (f : Form) → Built 0 (payload n f)
unfolding payload
payload_built n NoForm = never Coded Unknown 0 tt
payload_built n Bare = no_bytes (coded n 0 0)
payload_built n Number = fewer (single n) 1 (single_built n) 0 (omega arith)
payload_built n Flagged = fewer (maybe n) 1 (maybe_built n) 0 (omega arith)

operation_of_lem : (k : Kind) (n : ℕ) → Built 0 (operation_of k n)
unfolding operation_of
operation_of_lem k n = made_built 0 (payload n (op_form (family_of k) n)) (op_from (family_of k)) (payload_built n (op_form (family_of k) n))

answer_of_lem : (k : Kind) (n : ℕ) → Built 0 (answer_of k n)
unfolding answer_of
answer_of_lem k n = made_built 0 (payload n (ret_form (family_of k) n)) (ret_from (family_of k)) (payload_built n (ret_form (family_of k) n))

operation_built : (k : Kind) → Built 1 (operation k)
unfolding operation
operation_built k = next_to 1 0 number (operation_of k) one_number (operation_of_lem k)

answer_built : (k : Kind) → Built 1 (answer k)
unfolding answer
answer_built k = next_to 1 0 number (answer_of k) one_number (answer_of_lem k)

event_of_lem : (k : Kind) (n : ℕ) → Built 1 (event_of k n)
unfolding event_of
event_of_lem k n =
    either 1 (eqb (n % 2) 0) _ _ (made_built 1 (operation k) (λ op. invoked (n / 2) op) (operation_built k))
    (made_built 1 (answer k) (λ ret. returned (n / 2) ret) (answer_built k))

pub event_built : (k : Kind) → Built 2 (event k)
unfolding event
event_built k = next_to 1 1 number (event_of k) one_number (event_of_lem k)

-- An event takes two bytes at least.
pub event_field : (k : Kind) → Field 2 (event k)
event_field k = built_field (event_built k)

values_built : (count i : ℕ) (items : List ℤ) → Built 0 (values_from count i items)
unfolding values_from
values_built zero i items = no_bytes items
values_built (suc count) i items =
    fewer (value then λ v. values_from count (i + 1) (set items i v)) 1
    (next_to 1 0 value (λ v. values_from count (i + 1) (set items i v)) value_built (λ v. values_built count (i + 1) (set items i v))) 0 (omega arith)

counted_built : (n count : ℕ) → Built 0 (counted n count)
unfolding counted values
counted_built n count =
    either 0 (ltb start_room count) (refuse StartTooDeep) _ (never Object StartTooDeep 0 tt)
    (made_built 0 (values_from count 0 zeros) (λ items. start_from (coded n count 0) items) (values_built count 0 zeros))

-- what follows the number of an object is a byte at least

start_by_lem : (n : ℕ) (f : StartForm) → Built 1 (start_by n f)
unfolding start_by single_start payload counted_start
start_by_lem n NoStart = never Object Unknown 1 tt
start_by_lem n StartNumber = made_built 1 (single n) (λ c. start_from c zeros) (single_built n)
start_by_lem n StartFlagged = made_built 1 (maybe n) (λ c. start_from c zeros) (maybe_built n)
start_by_lem n Values = next_to 1 0 number (counted n) one_number (counted_built n)

object_built : (n : ℕ) → Built 1 (object n)
unfolding object
object_built n = start_by_lem n (start_form n)

pub start_built : Built 2 start
unfolding start
start_built = next_to 1 1 number object one_number object_built

pub opened_long : (s : List ℕ) → opens s ≡ true → length opening ≤ length s
unfolding opens
opened_long s e = omega (arith, ap length (same_true (take (length opening) s) opening e), length-take (length opening) s)

-- A header takes six bytes at least: the opening, the object's number, and a byte of its start.
pub header_field : Field 6 header
unfolding header
header_field s = go (ltb longest (length s)) (opens s) refl
  where
    go : (long opened : Bool) → opens s ≡ opened
        → Takes 6 (length s) (pick long (refused TooLong) (pick opened (from start s (length opening)) (refused Unopened)))
    go true true e = tt
    go true false e = tt
    go false true e = from_takes start 2 (built_field start_built) s (length opening) (opened_long s e)
    go false false e = tt

-- A file with a header is not too long.
pub header_short : (s : List ℕ) (o : Object) (n : ℕ) → header s ≡ got o n → length s ≤ longest
unfolding header
header_short s o n e = go (ltb longest (length s)) refl e
  where
    go : (long : Bool) → ltb longest (length s) ≡ long
        → pick long (refused TooLong) (pick (opens s) (from start s (length opening)) (refused Unopened)) ≡ got o n → length s ≤ longest
    go true q h = let z : ◌≡◌ {A = ℕ} 0 1 = cc in absurd (omega arith)
    go false q h = ltb-false longest (length s) q
