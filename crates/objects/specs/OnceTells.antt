-- Of the numbers of a write-once register's operation or return comes that operation or return, and returns are equal where their numbers are.
use Rattle.std.specs.Prelude.{◌≡◌, refl, ℤ, Some, None}
use Rattle.std.proofs.Common.{ap}
use Rattle.values.specs.Value.{eq_z}
use Rattle.values.specs.Coded.{maybe_coded, maybe_from, same_coded}
use Rattle.values.specs.SameValues.{int_eq_same}
use Rattle.values.specs.Sent.{sent_back}
use Rattle.objects.specs.WriteOnce.{once_op_coded, once_op_from, once_ret_coded, once_ret_from}
use Rattle.objects.specs.contracts.write_once_register.WORegisterRetPartialEq.TheImpl as equality
use Rattle.objects.specs.declared.write_once_register.WORegisterOp.{WORegisterOp}
use Rattle.objects.specs.declared.write_once_register.WORegisterOp.TheVariants.{Write, Read}
use Rattle.objects.specs.declared.write_once_register.WORegisterRet.{WORegisterRet}
use Rattle.objects.specs.declared.write_once_register.WORegisterRet.TheVariants.{WriteOk, WriteFail, ReadOk}

pub once_op_back : (p : WORegisterOp) → once_op_from (once_op_coded p) ≡ p
unfolding once_op_from once_op_coded
once_op_back (Write v) = ap Write (sent_back v)
once_op_back Read = refl

pub once_ret_back : (q : WORegisterRet) → once_ret_from (once_ret_coded q) ≡ q
unfolding once_ret_from once_ret_coded maybe_coded maybe_from
once_ret_back WriteOk = refl
once_ret_back WriteFail = refl
once_ret_back (ReadOk None) = refl
once_ret_back (ReadOk (Some v)) = ap (λ (w : ℤ). ReadOk (Some w)) (sent_back v)

-- what `==` says of two returns
pub once_ret_same : (a b : WORegisterRet) → (equality.ghosts).eq a b ≡ same_coded (once_ret_coded a) (once_ret_coded b)
unfolding same_coded once_ret_coded maybe_coded eq_z
once_ret_same WriteOk WriteOk = refl
once_ret_same WriteOk WriteFail = refl
once_ret_same WriteOk (ReadOk b) = refl
once_ret_same WriteFail WriteOk = refl
once_ret_same WriteFail WriteFail = refl
once_ret_same WriteFail (ReadOk b) = refl
once_ret_same (ReadOk a) WriteOk = refl
once_ret_same (ReadOk a) WriteFail = refl
once_ret_same (ReadOk None) (ReadOk None) = refl
once_ret_same (ReadOk None) (ReadOk (Some w)) = refl
once_ret_same (ReadOk (Some v)) (ReadOk None) = refl
once_ret_same (ReadOk (Some v)) (ReadOk (Some w)) = int_eq_same v w
