-- The numbers of an operation or a return, read in its family, give it back.
use Rattle.std.specs.Prelude.{◌≡◌}
use Rattle.std.proofs.Common.{sym, ap, ◌∙◌}
use Rattle.objects.specs.RegisterTells.{register_op_back, register_ret_back}
use Rattle.objects.specs.OnceTells.{once_op_back, once_ret_back}
use Rattle.objects.specs.StackTells.{stack_op_back, stack_ret_back}
use Rattle.families.specs.Family.{Family, op_family, ret_family}
use Rattle.families.specs.Codes.{op_coded, op_from, ret_coded, ret_from}
use Rattle.families.specs.declared.Op.{Op}
use Rattle.families.specs.declared.Op.TheVariants.{Register as ORegister, WORegister as OWORegister, Vec as OVec}
use Rattle.families.specs.declared.Ret.{Ret}
use Rattle.families.specs.declared.Ret.TheVariants.{Register as RRegister, WORegister as RWORegister, Vec as RVec}

-- Of an operation's numbers, read in its family, comes the operation.
pub op_back : (op : Op) → op_from (op_family op) (op_coded op) ≡ op
unfolding op_from op_family op_coded
op_back (ORegister p) = ap ORegister (register_op_back p)
op_back (OWORegister p) = ap OWORegister (once_op_back p)
op_back (OVec p) = ap OVec (stack_op_back p)

-- Of a return's numbers, read in its family, comes the return.
pub ret_back : (r : Ret) → ret_from (ret_family r) (ret_coded r) ≡ r
unfolding ret_from ret_family ret_coded
ret_back (RRegister q) = ap RRegister (register_ret_back q)
ret_back (RWORegister q) = ap RWORegister (once_ret_back q)
ret_back (RVec q) = ap RVec (stack_ret_back q)

-- So two returns of one family that are told by the same numbers are the same return.
pub numbers_tell : (r q : Ret) → ret_family r ≡ ret_family q → ret_coded r ≡ ret_coded q → r ≡ q
numbers_tell r q f e = sym (ret_back r) ∙ ap (λ (g : Family). ret_from g (ret_coded r)) f ∙ ap (ret_from (ret_family q)) e ∙ ret_back q
