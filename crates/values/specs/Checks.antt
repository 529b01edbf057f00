-- A check is clear or a refusal, with document 01's number.
use Rattle.std.specs.Prelude.{ℕ, Result, Ok, Err}
use Rattle.values.specs.declared.refusal.Refusal.{Refusal}
use Rattle.values.specs.declared.refusal.Refusal.TheVariants.{OtherFamily, NoRoom, StartTooDeep, OutOfShape}

unfoldable pub number_of : Refusal → ℕ
number_of OtherFamily = 3
number_of NoRoom = 7
number_of StartTooDeep = 8
number_of OutOfShape = 9

-- the first refusal of two checks
unfoldable pub in_order : Result Unit Refusal → Result Unit Refusal → Result Unit Refusal
in_order (Ok tt) b = b
in_order (Err r) b = Err r
