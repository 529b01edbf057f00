-- Of the numbers of a register's operation or return comes that operation or return, and returns are equal where their numbers are.
use Rattle.std.specs.Prelude.{◌≡◌, refl}
use Rattle.std.proofs.Common.{ap}
use Rattle.values.specs.Value.{eq_z}
use Rattle.values.specs.Coded.{same_coded}
use Rattle.values.specs.SameValues.{int_eq_same}
use Rattle.values.specs.Sent.{sent_back}
use Rattle.objects.specs.contracts.register.RegisterRetPartialEq.TheImpl as equality
use Rattle.objects.specs.Register.{register_op_coded, register_op_from, register_ret_coded, register_ret_from}
use Rattle.objects.specs.declared.register.RegisterOp.{RegisterOp}
use Rattle.objects.specs.declared.register.RegisterOp.TheVariants.{Write, Read}
use Rattle.objects.specs.declared.register.RegisterRet.{RegisterRet}
use Rattle.objects.specs.declared.register.RegisterRet.TheVariants.{WriteOk, ReadOk}

pub register_op_back : (p : RegisterOp) → register_op_from (register_op_coded p) ≡ p
unfolding register_op_from register_op_coded
register_op_back (Write v) = ap Write (sent_back v)
register_op_back Read = refl

pub register_ret_back : (q : RegisterRet) → register_ret_from (register_ret_coded q) ≡ q
unfolding register_ret_from register_ret_coded
register_ret_back WriteOk = refl
register_ret_back (ReadOk v) = ap ReadOk (sent_back v)

-- what `==` says of two returns
pub register_ret_same : (a b : RegisterRet) → (equality.ghosts).eq a b ≡ same_coded (register_ret_coded a) (register_ret_coded b)
unfolding same_coded register_ret_coded eq_z
register_ret_same WriteOk WriteOk = refl
register_ret_same WriteOk (ReadOk w) = refl
register_ret_same (ReadOk v) WriteOk = refl
register_ret_same (ReadOk v) (ReadOk w) = int_eq_same v w
