-- The corpus file of document 01, on the list of its bytes, field by field. What a number stands for in its family is the table of
-- `families`; no family is named here.
use Rattle.std.specs.Prelude.{ℕ, zero, suc, ◌+◌, ◌/◌, ◌%◌, Bool, true, false, List, [], ◌∷◌, length, take, set, ℤ, ltb, eqb}
use Rattle.history.specs.Events.{Event, invoked, returned}
use Rattle.values.specs.Value.{pick, signed}
use Rattle.values.specs.Sizes.{start_room}
use Rattle.families.specs.Family.{family_of}
use Rattle.values.specs.Coded.{coded}
use Rattle.families.specs.Codes.{op_form, op_from, ret_form, ret_from, start_form, start_from}
use Rattle.families.specs.Objects.{zeros}
use Rattle.families.specs.Families.{families}
use Rattle.values.specs.declared.coded.Coded.{Coded}
use Rattle.values.specs.declared.coded.Form.{Form}
use Rattle.values.specs.declared.coded.Form.TheVariants.{Unknown as NoForm, Bare, Number, Flagged}
use Rattle.values.specs.declared.coded.StartForm.{StartForm}
use Rattle.values.specs.declared.coded.StartForm.TheVariants.{Unknown as NoStart, Number as StartNumber, Flagged as StartFlagged, Values}
use Rattle.families.specs.declared.Kind.{Kind}
use Rattle.families.specs.declared.Object.{Object}
use Rattle.families.specs.declared.Op.{Op}
use Rattle.families.specs.declared.Ret.{Ret}
use Rattle.numbers.specs.declared.refusal.Refusal.TheVariants.{TooLong, Unopened, Unknown, StartTooDeep}
use Rattle.numbers.specs.Reader.{refused, Reader, from, give, refuse, ◌then◌}
use Rattle.numbers.specs.Number.{number}

-- "A signed value v is sent as 2v when v ≥ 0 and -2v - 1 when negative."
unfoldable pub value : Reader ℤ
value = number then λ n. give (signed n)

-- what follows the number n of an operation, a return or an object: "its value, flag and value, or length", or nothing

-- A value or a length.
unfoldable pub single : ℕ → Reader Coded
single n = number then λ word. give (coded n 1 word)

-- "Flag 0, or flag 1 and a value." Another flag is unknown, whatever follows it.
unfoldable pub flagged : ℕ → ℕ → Reader Coded
flagged n flag =
    pick (eqb flag 0) (give (coded n 0 0))
    (pick (eqb flag 1) (single n)
    (refuse Unknown))

unfoldable pub maybe : ℕ → Reader Coded
maybe n = number then flagged n

-- By the form that the number has; one that has none is unknown.
unfoldable pub payload : ℕ → Form → Reader Coded
payload n NoForm = refuse Unknown
payload n Bare = give (coded n 0 0)
payload n Number = single n
payload n Flagged = maybe n

-- "Header: object (0 register, 1 write-once, 2 stack), then its start: a value; or flag 0, or flag 1 and a value; or a count and values,
-- bottom first." Which number has which start is said by the table.

-- A value; or flag 0, or flag 1 and a value.
unfoldable pub single_start : ℕ → Form → Reader Object
single_start n f = payload n f then λ c. give (start_from c zeros)

-- So many values, each above the one before it, from place i of the items on.
unfoldable pub values_from : ℕ → ℕ → List ℤ → Reader (List ℤ)
values_from zero i items = give items
values_from (suc count) i items = value then λ v. values_from count (i + 1) (set items i v)

unfoldable pub values : ℕ → ℕ → Reader Object
values n count = values_from count 0 zeros then λ items. give (start_from (coded n count 0) items)

-- A count over 32 is refused as soon as it is read.
unfoldable pub counted : ℕ → ℕ → Reader Object
counted n count = pick (ltb start_room count) (refuse StartTooDeep) (values n count)

-- A count and values, bottom first.
unfoldable pub counted_start : ℕ → Reader Object
counted_start n = number then counted n

-- By the form that the object's number has.
unfoldable pub start_by : ℕ → StartForm → Reader Object
start_by n NoStart = refuse Unknown
start_by n StartNumber = single_start n Number
start_by n StartFlagged = single_start n Flagged
start_by n Values = counted_start n

unfoldable pub object : ℕ → Reader Object
object n = start_by n (start_form n)

unfoldable pub start : Reader Object
start = number then object

-- The four bytes 52 41 57 31.
abbrev pub opening : List ℕ
opening = 0x52 ∷ 0x41 ∷ 0x57 ∷ 0x31 ∷ []

unfoldable pub same_bytes : List ℕ → List ℕ → Bool
same_bytes [] [] = true
same_bytes [] (b ∷ bs) = false
same_bytes (a ∷ s) [] = false
same_bytes (a ∷ s) (b ∷ bs) = pick (eqb a b) (same_bytes s bs) false

-- The file opens with them.
unfoldable pub opens : List ℕ → Bool
opens s = same_bytes (take (length opening) s) opening

-- A file is at most 65,536 bytes.
abbrev pub longest : ℕ
longest = 65536

-- 20 precedes 21, and both precede what the rest says.
unfoldable pub header : Reader Object
header s = pick (ltb longest (length s)) (refused TooLong) (pick (opens s) (from start s (length opening)) (refused Unopened))

-- "Then events to the end: a number 2·thread (invoke) or 2·thread + 1 (return); the operation or return number, in the order listed
-- above from 0; then its value, flag and value, or length." The order listed is the table of the object's family.

unfoldable pub operation_of : Kind → ℕ → Reader Op
operation_of k n = payload n (op_form (family_of k) n) then λ c. give (op_from (family_of k) c)

unfoldable pub operation : Kind → Reader Op
operation k = number then operation_of k

unfoldable pub answer_of : Kind → ℕ → Reader Ret
answer_of k n = payload n (ret_form (family_of k) n) then λ c. give (ret_from (family_of k) c)

unfoldable pub answer : Kind → Reader Ret
answer k = number then answer_of k

-- An event, by its first number.
unfoldable pub event_of : Kind → ℕ → Reader (Event families)
event_of k head =
    pick (eqb (head % 2) 0) (operation k then λ op. give (invoked (head / 2) op)) (answer k then λ ret. give (returned (head / 2) ret))

unfoldable pub event : Kind → Reader (Event families)
event k = number then event_of k
