-- The register: Write(v) stores, answers WriteOk. Read answers ReadOk(value).
use Rattle.std.specs.Prelude.{ℕ, ℤ, eqb}
use Rattle.values.specs.Value.{pick, zigzag, signed}
use Rattle.values.specs.Coded.{coded}
use Rattle.values.specs.declared.coded.Coded.{Coded}
use Rattle.values.specs.declared.coded.Form.{Form}
use Rattle.values.specs.declared.coded.Form.TheVariants.{Unknown, Bare, Number}
use Rattle.objects.specs.declared.register.RegisterOp.{RegisterOp}
use Rattle.objects.specs.declared.register.RegisterOp.TheVariants.{Write, Read}
use Rattle.objects.specs.declared.register.RegisterRet.{RegisterRet}
use Rattle.objects.specs.declared.register.RegisterRet.TheVariants.{WriteOk, ReadOk}

unfoldable pub register_answer : ℤ → RegisterOp → RegisterRet
register_answer s (Write v) = WriteOk
register_answer s Read = ReadOk s

unfoldable pub register_after : ℤ → RegisterOp → ℤ
register_after s (Write v) = v
register_after s Read = s

-- in numbers, from 0 in the order above: what each carries, what follows a number, and what is meant

unfoldable pub register_op_coded : RegisterOp → Coded
register_op_coded (Write v) = coded 0 1 (zigzag v)
register_op_coded Read = coded 1 0 0

unfoldable pub register_op_form : ℕ → Form
register_op_form n = pick (eqb n 0) Number (pick (eqb n 1) Bare Unknown)

unfoldable pub register_op_from : Coded → RegisterOp
register_op_from c = pick (eqb c.number 0) (Write (signed c.word)) Read

unfoldable pub register_ret_coded : RegisterRet → Coded
register_ret_coded WriteOk = coded 0 0 0
register_ret_coded (ReadOk v) = coded 1 1 (zigzag v)

unfoldable pub register_ret_form : ℕ → Form
register_ret_form n = pick (eqb n 0) Bare (pick (eqb n 1) Number Unknown)

unfoldable pub register_ret_from : Coded → RegisterRet
register_ret_from c = pick (eqb c.number 0) WriteOk (ReadOk (signed c.word))
