-- Operations, returns and starts in numbers, as files, lists and proposed orders tell them: a line for each family.
use Rattle.std.specs.Prelude.{ℕ, List, ℤ, eqb}
use Rattle.values.specs.Value.{pick, zigzag, signed}
use Rattle.values.specs.Coded.{coded, maybe_coded, maybe_from}
use Rattle.families.specs.Family.{Family, registers, write_onces, stacks}
use Rattle.families.specs.Objects.{new_register, new_once, new_stack}
use Rattle.objects.specs.Register.{register_op_coded, register_op_form, register_op_from, register_ret_coded, register_ret_form, register_ret_from}
use Rattle.objects.specs.WriteOnce.{once_op_coded, once_op_form, once_op_from, once_ret_coded, once_ret_form, once_ret_from}
use Rattle.objects.specs.Stack.{stack_op_coded, stack_op_form, stack_op_from, stack_ret_coded, stack_ret_form, stack_ret_from}
use Rattle.values.specs.declared.coded.Coded.{Coded}
use Rattle.values.specs.declared.coded.Form.{Form}
use Rattle.values.specs.declared.coded.StartForm.{StartForm}
use Rattle.values.specs.declared.coded.StartForm.TheVariants.{Unknown, Number, Flagged, Values}
use Rattle.families.specs.declared.Kind.{Kind}
use Rattle.families.specs.declared.Kind.TheVariants.{Register, WORegister, Vec}
use Rattle.families.specs.declared.Object.{Object}
use Rattle.families.specs.declared.Op.{Op}
use Rattle.families.specs.declared.Op.TheVariants.{Register as ORegister, WORegister as OWORegister, Vec as OVec}
use Rattle.families.specs.declared.Ret.{Ret}
use Rattle.families.specs.declared.Ret.TheVariants.{Register as RRegister, WORegister as RWORegister, Vec as RVec}

-- an operation of a family: what it is told by, what follows its number, and what is meant

unfoldable pub op_coded : Op → Coded
op_coded (ORegister p) = register_op_coded p
op_coded (OWORegister p) = once_op_coded p
op_coded (OVec p) = stack_op_coded p

unfoldable pub op_form : Family → ℕ → Form
op_form registers n = register_op_form n
op_form write_onces n = once_op_form n
op_form stacks n = stack_op_form n

unfoldable pub op_from : Family → Coded → Op
op_from registers c = ORegister (register_op_from c)
op_from write_onces c = OWORegister (once_op_from c)
op_from stacks c = OVec (stack_op_from c)

-- a return likewise

unfoldable pub ret_coded : Ret → Coded
ret_coded (RRegister q) = register_ret_coded q
ret_coded (RWORegister q) = once_ret_coded q
ret_coded (RVec q) = stack_ret_coded q

unfoldable pub ret_form : Family → ℕ → Form
ret_form registers n = register_ret_form n
ret_form write_onces n = once_ret_form n
ret_form stacks n = stack_ret_form n

unfoldable pub ret_from : Family → Coded → Ret
ret_from registers c = RRegister (register_ret_from c)
ret_from write_onces c = RWORegister (once_ret_from c)
ret_from stacks c = RVec (stack_ret_from c)

-- a start: a register's value; nothing or a value; or how many values, with the items that hold them, bottom first

unfoldable pub start_coded : Kind → Coded
start_coded (Register v) = coded 0 1 (zigzag v)
start_coded (WORegister m) = maybe_coded 1 m
start_coded (Vec d) = coded 2 d 0

unfoldable pub start_form : ℕ → StartForm
start_form n = pick (eqb n 0) Number (pick (eqb n 1) Flagged (pick (eqb n 2) Values Unknown))

unfoldable pub start_from : Coded → List ℤ → Object
start_from c items =
    pick (eqb c.number 0) (new_register (signed c.word))
    (pick (eqb c.number 1) (new_once (maybe_from c))
    (new_stack items c.count))
