-- The write-once register: Write(v) on nothing stores, WriteOk; on an equal value WriteOk; on another value
-- WriteFail, nothing stored. Read answers ReadOk(nothing or value).
use Rattle.std.specs.Prelude.{ℕ, Bool, true, false, ℤ, eqb, Option, Some, None}
use Rattle.values.specs.Value.{pick, eq_z, zigzag, signed}
use Rattle.values.specs.Coded.{coded, maybe_coded, maybe_from}
use Rattle.values.specs.declared.coded.Coded.{Coded}
use Rattle.values.specs.declared.coded.Form.{Form}
use Rattle.values.specs.declared.coded.Form.TheVariants.{Unknown, Bare, Number, Flagged}
use Rattle.objects.specs.declared.write_once_register.WORegisterOp.{WORegisterOp}
use Rattle.objects.specs.declared.write_once_register.WORegisterOp.TheVariants.{Write, Read}
use Rattle.objects.specs.declared.write_once_register.WORegisterRet.{WORegisterRet}
use Rattle.objects.specs.declared.write_once_register.WORegisterRet.TheVariants.{WriteOk, WriteFail, ReadOk}

-- a write succeeds on nothing and on an equal value
unfoldable pub writes : Option ℤ → ℤ → Bool
writes None v = true
writes (Some x) v = eq_z x v

unfoldable pub write_answer : Bool → WORegisterRet
write_answer true = WriteOk
write_answer false = WriteFail

unfoldable pub once_answer : Option ℤ → WORegisterOp → WORegisterRet
once_answer m (Write v) = write_answer (writes m v)
once_answer m Read = ReadOk m

unfoldable pub once_after : Option ℤ → WORegisterOp → Option ℤ
once_after None (Write v) = Some v
once_after (Some x) (Write v) = Some x
once_after m Read = m

-- in numbers, from 0 in the order Write, Read; WriteOk, WriteFail, ReadOk

unfoldable pub once_op_coded : WORegisterOp → Coded
once_op_coded (Write v) = coded 0 1 (zigzag v)
once_op_coded Read = coded 1 0 0

unfoldable pub once_op_form : ℕ → Form
once_op_form n = pick (eqb n 0) Number (pick (eqb n 1) Bare Unknown)

unfoldable pub once_op_from : Coded → WORegisterOp
once_op_from c = pick (eqb c.number 0) (Write (signed c.word)) Read

unfoldable pub once_ret_coded : WORegisterRet → Coded
once_ret_coded WriteOk = coded 0 0 0
once_ret_coded WriteFail = coded 1 0 0
once_ret_coded (ReadOk m) = maybe_coded 2 m

unfoldable pub once_ret_form : ℕ → Form
once_ret_form n = pick (eqb n 0) Bare (pick (eqb n 1) Bare (pick (eqb n 2) Flagged Unknown))

unfoldable pub once_ret_from : Coded → WORegisterRet
once_ret_from c = pick (eqb c.number 0) WriteOk (pick (eqb c.number 1) WriteFail (ReadOk (maybe_from c)))
