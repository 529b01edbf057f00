-- Of the numbers of a stack's operation or return comes that operation or return, and returns are equal where their numbers are.
use Rattle.std.specs.Prelude.{◌≡◌, refl, ℤ, Some, None}
use Rattle.std.proofs.Common.{ap}
use Rattle.values.specs.Value.{eq_z}
use Rattle.values.specs.Coded.{maybe_coded, maybe_from, same_coded}
use Rattle.values.specs.SameValues.{int_eq_same}
use Rattle.values.specs.Sent.{sent_back}
use Rattle.objects.specs.Stack.{stack_op_coded, stack_op_from, stack_ret_coded, stack_ret_from}
use Rattle.objects.specs.contracts.vec.VecRetPartialEq.TheImpl as equality
use Rattle.objects.specs.declared.vec.VecOp.{VecOp}
use Rattle.objects.specs.declared.vec.VecOp.TheVariants.{Push, Pop, Len}
use Rattle.objects.specs.declared.vec.VecRet.{VecRet}
use Rattle.objects.specs.declared.vec.VecRet.TheVariants.{PushOk, PopOk, LenOk}

pub stack_op_back : (p : VecOp) → stack_op_from (stack_op_coded p) ≡ p
unfolding stack_op_from stack_op_coded
stack_op_back (Push v) = ap Push (sent_back v)
stack_op_back Pop = refl
stack_op_back Len = refl

pub stack_ret_back : (q : VecRet) → stack_ret_from (stack_ret_coded q) ≡ q
unfolding stack_ret_from stack_ret_coded maybe_coded maybe_from
stack_ret_back PushOk = refl
stack_ret_back (PopOk None) = refl
stack_ret_back (PopOk (Some v)) = ap (λ (w : ℤ). PopOk (Some w)) (sent_back v)
stack_ret_back (LenOk n) = refl

-- what `==` says of two returns
pub stack_ret_same : (a b : VecRet) → (equality.ghosts).eq a b ≡ same_coded (stack_ret_coded a) (stack_ret_coded b)
unfolding same_coded stack_ret_coded maybe_coded eq_z
stack_ret_same PushOk PushOk = refl
stack_ret_same PushOk (PopOk b) = refl
stack_ret_same PushOk (LenOk n) = refl
stack_ret_same (PopOk a) PushOk = refl
stack_ret_same (PopOk None) (PopOk None) = refl
stack_ret_same (PopOk None) (PopOk (Some w)) = refl
stack_ret_same (PopOk (Some v)) (PopOk None) = refl
stack_ret_same (PopOk (Some v)) (PopOk (Some w)) = int_eq_same v w
stack_ret_same (PopOk a) (LenOk n) = refl
stack_ret_same (LenOk m) PushOk = refl
stack_ret_same (LenOk m) (PopOk b) = refl
stack_ret_same (LenOk m) (LenOk n) = refl
