-- The Rust's reference objects, transcribed: the trait of stateright 0.31.0, src/semantics.rs, and its three objects of values, register.rs,
-- write_once_register.rs and vec.rs in src/semantics. Definitions only. A method that takes &mut self gives its answer and what self is then.
use Rattle.std.specs.Prelude.{ℕ, zero, suc, Bool, true, false, cond, not, List, [], ◌∷◌, ◌++◌, length, get_or, ℤ, pos, negsuc, eqb, Option, Some, None}
use Rattle.objects.specs.declared.register.RegisterOp.{RegisterOp}
use Rattle.objects.specs.declared.register.RegisterOp.TheVariants.{Write, Read}
use Rattle.objects.specs.declared.register.RegisterRet.{RegisterRet}
use Rattle.objects.specs.declared.register.RegisterRet.TheVariants.{WriteOk, ReadOk}
use Rattle.objects.specs.declared.write_once_register.WORegisterOp.{WORegisterOp}
use Rattle.objects.specs.declared.write_once_register.WORegisterOp.TheVariants.{Write as WOWrite, Read as WORead}
use Rattle.objects.specs.declared.write_once_register.WORegisterRet.{WORegisterRet}
use Rattle.objects.specs.declared.write_once_register.WORegisterRet.TheVariants.{WriteOk as WOWriteOk, WriteFail, ReadOk as WOReadOk}
use Rattle.objects.specs.declared.vec.VecOp.{VecOp}
use Rattle.objects.specs.declared.vec.VecOp.TheVariants.{Push, Pop, Len}
use Rattle.objects.specs.declared.vec.VecRet.{VecRet}
use Rattle.objects.specs.declared.vec.VecRet.TheVariants.{PushOk, PopOk, LenOk}
use Rattle.families.specs.Family.{Family, registers, write_onces, stacks}
use Rattle.families.specs.Objects.{no_ret}
use Rattle.families.specs.declared.Kind.{Kind}
use Rattle.families.specs.declared.Kind.TheVariants.{Register as KRegister, WORegister as KWORegister, Vec as KVec}
use Rattle.families.specs.declared.Object.{Object}
use Rattle.families.specs.declared.Op.{Op}
use Rattle.families.specs.declared.Op.TheVariants.{Register as ORegister, WORegister as OWORegister, Vec as OVec}
use Rattle.families.specs.declared.Ret.{Ret}
use Rattle.families.specs.declared.Ret.TheVariants.{Register as RRegister, WORegister as RWORegister, Vec as RVec}

-- trait SequentialSpec: Sized { type Op; type Ret: PartialEq; .. }
pub record SequentialSpec (Op Ret : Type 0) : Type 1 where
  pub Self : Type 0
  -- fn invoke(&mut self, op: &Self::Op) -> Self::Ret
  pub invoke : Self → Op → Ret × Self
  -- fn is_valid_step(&mut self, op: &Self::Op, ret: &Self::Ret) -> bool
  pub is_valid_step : Self → Op → Ret → Bool × Self

-- fn is_valid_history(&mut self, ops) -> bool, the trait's own: ops.into_iter().all(|(op, ret)| self.is_valid_step(&op, &ret))
module _ {Op Ret : Type 0} (S : SequentialSpec Op Ret) where
  -- all goes on after a true, and stops at the first false
  abbrev pub and_then : Bool → S.Self → (S.Self → Bool × S.Self) → Bool × S.Self
  and_then true self go = go self
  and_then false self go = (false, self)

  abbrev pub is_valid_history : List (Op × Ret) → S.Self → Bool × S.Self
  is_valid_history [] self = (true, self)
  is_valid_history (o ∷ ops) self =
      let x = S.is_valid_step self o.0 o.1 in and_then x.0 x.1 (is_valid_history ops)

-- ==, of values and of Option<T>

abbrev pub same_value : ℤ → ℤ → Bool
same_value (pos a) (pos b) = eqb a b
same_value (pos a) (negsuc b) = false
same_value (negsuc a) (pos b) = false
same_value (negsuc a) (negsuc b) = eqb a b

abbrev pub same_option : Option ℤ → Option ℤ → Bool
same_option None None = true
same_option None (Some b) = false
same_option (Some a) None = false
same_option (Some a) (Some b) = same_value a b

-- pub struct Register<T>(pub T);

abbrev pub register_invoke : ℤ → RegisterOp → RegisterRet × ℤ
-- RegisterOp::Write(v) => { self.0 = v.clone(); RegisterRet::WriteOk }
register_invoke self (Write v) = (WriteOk, v)
-- RegisterOp::Read => RegisterRet::ReadOk(self.0.clone())
register_invoke self Read = (ReadOk self, self)

abbrev pub register_step : ℤ → RegisterOp → RegisterRet → Bool × ℤ
-- (RegisterOp::Write(v), RegisterRet::WriteOk) => { self.0 = v.clone(); true }
register_step self (Write v) WriteOk = (true, v)
-- (RegisterOp::Read, RegisterRet::ReadOk(v)) => &self.0 == v
register_step self Read (ReadOk v) = (same_value self v, self)
-- _ => false
register_step self (Write v) (ReadOk w) = (false, self)
register_step self Read WriteOk = (false, self)

abbrev pub register : SequentialSpec RegisterOp RegisterRet
register = record { Self = ℤ; invoke = register_invoke; is_valid_step = register_step }

-- pub struct WORegister<T>(pub Option<T>);

abbrev pub once_invoke : Option ℤ → WORegisterOp → WORegisterRet × Option ℤ
-- (WORegisterOp::Write(v), None) => { self.0 = Some(v.clone()); WORegisterRet::WriteOk }
once_invoke None (WOWrite v) = (WOWriteOk, Some v)
-- (WORegisterOp::Write(v), Some(vp)) if *v == *vp => { self.0 = Some(v.clone()); WORegisterRet::WriteOk }
-- (WORegisterOp::Write(_), Some(_)) => WORegisterRet::WriteFail
once_invoke (Some vp) (WOWrite v) = cond (same_value v vp) (WOWriteOk, Some v) (WriteFail, Some vp)
-- (WORegisterOp::Read, _) => WORegisterRet::ReadOk(self.0.clone())
once_invoke None WORead = (WOReadOk None, None)
once_invoke (Some vp) WORead = (WOReadOk (Some vp), Some vp)

abbrev pub once_step : Option ℤ → WORegisterOp → WORegisterRet → Bool × Option ℤ
-- (WORegisterOp::Write(v), WORegisterRet::WriteOk, None) => { self.0 = Some(v.clone()); true }
once_step None (WOWrite v) WOWriteOk = (true, Some v)
-- (WORegisterOp::Write(v), WORegisterRet::WriteOk, Some(vp)) if *v == *vp => true, and else _ => false
once_step (Some vp) (WOWrite v) WOWriteOk = (same_value v vp, Some vp)
-- (WORegisterOp::Write(v), WORegisterRet::WriteFail, Some(vp)) if *v != *vp => true, and else _ => false
once_step (Some vp) (WOWrite v) WriteFail = (not (same_value v vp), Some vp)
-- (WORegisterOp::Read, WORegisterRet::ReadOk(v), _) => &self.0 == v
once_step None WORead (WOReadOk m) = (same_option None m, None)
once_step (Some vp) WORead (WOReadOk m) = (same_option (Some vp) m, Some vp)
-- _ => false
once_step None (WOWrite v) WriteFail = (false, None)
once_step None (WOWrite v) (WOReadOk m) = (false, None)
once_step (Some vp) (WOWrite v) (WOReadOk m) = (false, Some vp)
once_step None WORead WOWriteOk = (false, None)
once_step (Some vp) WORead WOWriteOk = (false, Some vp)
once_step None WORead WriteFail = (false, None)
once_step (Some vp) WORead WriteFail = (false, Some vp)

abbrev pub write_once : SequentialSpec WORegisterOp WORegisterRet
write_once = record { Self = Option ℤ; invoke = once_invoke; is_valid_step = once_step }

-- impl<T> SequentialSpec for Vec<T>: the top last.

-- push
abbrev pub push : List ℤ → ℤ → List ℤ
push self v = self ++ (v ∷ [])

-- pop: the last value, if there is one, and what is left
abbrev pub pop : List ℤ → Option ℤ × List ℤ
pop [] = (None, [])
pop (v ∷ []) = (Some v, [])
pop (v ∷ w ∷ vs) = ((pop (w ∷ vs)).0, v ∷ (pop (w ∷ vs)).1)

abbrev pub vec_invoke : List ℤ → VecOp → VecRet × List ℤ
-- VecOp::Push(v) => { self.push(v.clone()); VecRet::PushOk }
vec_invoke self (Push v) = (PushOk, push self v)
-- VecOp::Pop => VecRet::PopOk(self.pop())
vec_invoke self Pop = (PopOk (pop self).0, (pop self).1)
-- VecOp::Len => VecRet::LenOk(self.len())
vec_invoke self Len = (LenOk (length self), self)

abbrev pub vec_step : List ℤ → VecOp → VecRet → Bool × List ℤ
-- (VecOp::Push(v), VecRet::PushOk) => { self.push(v.clone()); true }
vec_step self (Push v) PushOk = (true, push self v)
-- (VecOp::Pop, VecRet::PopOk(v)) => &self.pop() == v
vec_step self Pop (PopOk m) = (same_option (pop self).0 m, (pop self).1)
-- (VecOp::Len, VecRet::LenOk(l)) => &self.len() == l
vec_step self Len (LenOk l) = (eqb (length self) l, self)
-- _ => false
vec_step self (Push v) (PopOk m) = (false, self)
vec_step self (Push v) (LenOk l) = (false, self)
vec_step self Pop PushOk = (false, self)
vec_step self Pop (LenOk l) = (false, self)
vec_step self Len PushOk = (false, self)
vec_step self Len (PopOk m) = (false, self)

abbrev pub vec : SequentialSpec VecOp VecRet
vec = record { Self = List ℤ; invoke = vec_invoke; is_valid_step = vec_step }

-- An object of one of the three.
pub data RefObj : Type 0 where
  Register : ℤ → RefObj
  WORegister : Option ℤ → RefObj
  Vec : List ℤ → RefObj

-- Default, by family: Register<T> and WORegister<T> derive it, T::default() being 0 and Option<T>'s None; Vec's is Vec::new().
abbrev pub default_of : Family → RefObj
default_of registers = Register (pos 0)
default_of write_onces = WORegister None
default_of stacks = Vec []

-- The three as one. The Rust's types let in an operation or a return of the object's own family only; what stands for another's, none, does
-- nothing: invoke has no return, and a step is not valid.
module _ {Op' Ret' : Type 0} (S : SequentialSpec Op' Ret') (ret : Ret' → Ret) (object : S.Self → RefObj) where
  abbrev invoke_own : S.Self → Option Op' → Ret × RefObj
  invoke_own self None = (no_ret, object self)
  invoke_own self (Some op) = let x = S.invoke self op in (ret x.0, object x.1)

  abbrev step_own : S.Self → Option Op' → Option Ret' → Bool × RefObj
  step_own self None r = (false, object self)
  step_own self (Some op) None = (false, object self)
  step_own self (Some op) (Some r) = let x = S.is_valid_step self op r in (x.0, object x.1)

abbrev register_op : Op → Option RegisterOp
register_op (ORegister op) = Some op
register_op (OWORegister op) = None
register_op (OVec op) = None

abbrev once_op : Op → Option WORegisterOp
once_op (ORegister op) = None
once_op (OWORegister op) = Some op
once_op (OVec op) = None

abbrev vec_op : Op → Option VecOp
vec_op (ORegister op) = None
vec_op (OWORegister op) = None
vec_op (OVec op) = Some op

abbrev register_ret : Ret → Option RegisterRet
register_ret (RRegister ret) = Some ret
register_ret (RWORegister ret) = None
register_ret (RVec ret) = None

abbrev once_ret : Ret → Option WORegisterRet
once_ret (RRegister ret) = None
once_ret (RWORegister ret) = Some ret
once_ret (RVec ret) = None

abbrev vec_ret : Ret → Option VecRet
vec_ret (RRegister ret) = None
vec_ret (RWORegister ret) = None
vec_ret (RVec ret) = Some ret

abbrev pub invoke : RefObj → Op → Ret × RefObj
invoke (Register v) op = invoke_own register RRegister Register v (register_op op)
invoke (WORegister m) op = invoke_own write_once RWORegister WORegister m (once_op op)
invoke (Vec vs) op = invoke_own vec RVec Vec vs (vec_op op)

abbrev pub is_valid_step : RefObj → Op → Ret → Bool × RefObj
is_valid_step (Register v) op ret = step_own register RRegister Register v (register_op op) (register_ret ret)
is_valid_step (WORegister m) op ret = step_own write_once RWORegister WORegister m (once_op op) (once_ret ret)
is_valid_step (Vec vs) op ret = step_own vec RVec Vec vs (vec_op op) (vec_ret ret)

abbrev pub ref_objects : SequentialSpec Op Ret
ref_objects = record { Self = RefObj; invoke = invoke; is_valid_step = is_valid_step }

-- What an object of the port is there: a register its value, a write-once register its value or nothing, a stack the first items, as many as it
-- is deep, the bottom first.

abbrev pub from_bottom : List ℤ → ℕ → List ℤ
from_bottom items zero = []
from_bottom items (suc d) = from_bottom items d ++ (get_or items d (pos 0) ∷ [])

abbrev pub ref_obj_of : Kind → List ℤ → RefObj
ref_obj_of (KRegister v) items = Register v
ref_obj_of (KWORegister m) items = WORegister m
ref_obj_of (KVec d) items = Vec (from_bottom items d)

abbrev pub ref_obj : Object → RefObj
ref_obj o = ref_obj_of o.kind o.items
