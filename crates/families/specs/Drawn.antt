-- For each answer that a bare step may give of an object, an operation and a return that draw it.
use Rattle.std.specs.Prelude.{◌≡◌, refl, Bool, true, false, List, ◌≢◌, ℤ, pos, None}
use Rattle.std.proofs.Common.{sym, ap, ◌∙◌, arith}
use Rattle.values.specs.Sizes.{room}
use Rattle.objects.specs.Register.{register_answer}
use Rattle.objects.specs.WriteOnce.{once_answer}
use Rattle.objects.specs.Stack.{storage_answer, pops}
use Rattle.families.specs.Family.{family_of, op_family, ret_family}
use Rattle.families.specs.Placing.{answer_of, right_of, takes, leaves_wrong}
use Rattle.families.specs.Bare.{right_answered}
use Rattle.families.specs.BareRefusals.{TooDeep, OtherOp, Full, WantsRoom, TookRoom, Crowded}
use Rattle.families.specs.declared.Kind.{Kind}
use Rattle.families.specs.declared.Kind.TheVariants.{Register, WORegister, Vec}
use Rattle.families.specs.declared.Op.{Op}
use Rattle.families.specs.declared.Op.TheVariants.{Register as ORegister, WORegister as OWORegister, Vec as OVec}
use Rattle.families.specs.declared.Ret.{Ret}
use Rattle.families.specs.declared.Ret.TheVariants.{Register as RRegister, WORegister as RWORegister, Vec as RVec}
use Rattle.objects.specs.declared.register.RegisterOp.TheVariants.{Read}
use Rattle.objects.specs.declared.register.RegisterRet.TheVariants.{WriteOk}
use Rattle.objects.specs.declared.write_once_register.WORegisterOp.TheVariants.{Read as ORead}
use Rattle.objects.specs.declared.write_once_register.WORegisterRet.TheVariants.{WriteOk as OWriteOk}
use Rattle.objects.specs.declared.vec.VecOp.TheVariants.{Push, Len}
use Rattle.objects.specs.declared.vec.VecRet.TheVariants.{PushOk, PopOk}
use Rattle.values.specs.declared.held.Held.{Held}

-- 3: an operation of another family.
pub other_op : (k : Kind) → (op : Op) × OtherOp k op
unfolding family_of op_family
other_op (Register v) = (OVec Len, λ e. cc)
other_op (WORegister m) = (OVec Len, λ e. cc)
other_op (Vec d) = (ORegister Read, λ e. cc)

-- 7: a Push on a full stack, with PushOk.

pub record Crowds (k : Kind) : Type 0 where
  pub op : Op
  pub ret : Ret
  pub wants : WantsRoom op
  pub took : TookRoom ret
  pub own : op_family op ≡ family_of k
  pub own_ret : ret_family ret ≡ family_of k

pub crowding : (k : Kind) → Full k → Crowds k
unfolding family_of op_family ret_family
crowding k f = record {
  op = OVec (Push (pos 0));
  ret = RVec PushOk;
  wants = (pos 0, refl);
  took = refl;
  own = ap family_of (sym f);
  own_ret = ap family_of (sym f);
}

-- a full stack is not too deep, and a Push is one of its own

pub full_shaped : (k : Kind) → Full k → ¬ TooDeep k
full_shaped k f x = let q : room ≡ x.0 = cc in omega arith

pub crowded_own : (k : Kind) (op : Op) → Crowded k op → ¬ OtherOp k op
unfolding family_of op_family
crowded_own k op x n = n (ap op_family x.1.1 ∙ ap family_of (sym x.0))

-- No: a return of the family that the operation never has, after which the object is as it came.

pub record Errs (k : Kind) : Type 0 where
  pub op : Op
  pub ret : Ret
  pub own : op_family op ≡ family_of k
  pub own_ret : ret_family ret ≡ family_of k
  pub untaken : ¬ TookRoom ret
  pub keeps : leaves_wrong op ret ≡ false
  pub wrong : (items : List ℤ) (h : Held) → right_of items h op ret ≡ false

-- a return that is not the answer is wrong
not_answered : (items : List ℤ) (h : Held) (op : Op) (ret : Ret) → answer_of items h op ≢ ret → right_of items h op ret ≡ false
not_answered items h op ret n = go (right_of items h op ret) refl
  where
    go : (b : Bool) → right_of items h op ret ≡ b → b ≡ false
    go true e = absurd (n ((right_answered items h op ret).0 e))
    go false e = refl

pub erring : (k : Kind) → Errs k
unfolding family_of op_family ret_family leaves_wrong takes pops answer_of register_answer once_answer storage_answer
erring (Register v) = record {
  op = ORegister Read;
  ret = RRegister WriteOk;
  own = refl;
  own_ret = refl;
  untaken = λ e. cc;
  keeps = refl;
  wrong = λ items h. not_answered items h (ORegister Read) (RRegister WriteOk) (λ e. cc);
}
erring (WORegister m) = record {
  op = OWORegister ORead;
  ret = RWORegister OWriteOk;
  own = refl;
  own_ret = refl;
  untaken = λ e. cc;
  keeps = refl;
  wrong = λ items h. not_answered items h (OWORegister ORead) (RWORegister OWriteOk) (λ e. cc);
}
erring (Vec d) = record {
  op = OVec Len;
  ret = RVec (PopOk None);
  own = refl;
  own_ret = refl;
  untaken = λ e. cc;
  keeps = refl;
  wrong = λ items h. not_answered items h (OVec Len) (RVec (PopOk None)) (λ e. cc);
}

-- A Push with another return than PushOk is wrong, and is not done all the same.
pub push_wrong : (items : List ℤ) (h : Held) (op : Op) (ret : Ret) → WantsRoom op → ¬ TookRoom ret
    → (right_of items h op ret ≡ false) × (leaves_wrong op ret ≡ false)
unfolding leaves_wrong takes pops answer_of storage_answer
push_wrong items h op ret w n = (not_answered items h op ret (λ e. n (sym e ∙ rw w.1)), rw w.1)
