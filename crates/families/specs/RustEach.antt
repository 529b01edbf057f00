-- Each family does what the Rust's object of it does, one by one: what an operation answers and leaves, whether a return is right, and what is
-- left then.
use Rattle.std.specs.Prelude.{ℕ, ◌≡◌, refl, Bool, true, false, cond, not, length, ℤ, pos, negsuc, eqb, Option, Some, None}
use Rattle.std.proofs.Common.{sym, ap, ◌∙◌, arith}
use mathlib.Core.List.{List, [], ◌∷◌, ◌++◌, reverse, reverse-cons}
use Rattle.std.proofs.lemmas.List.{length-reverse}
use Rattle.values.specs.Value.{pick, zigzag, eq_z, same_maybe}
use Rattle.values.specs.Coded.{maybe_coded, same_coded}
use Rattle.values.specs.SameValues.{values, maybe_same}
use Rattle.objects.specs.Register.{register_answer, register_after, register_ret_coded}
use Rattle.objects.specs.WriteOnce.{writes, write_answer, once_answer, once_after, once_ret_coded}
use Rattle.objects.specs.Stack.{first, stack_answer, stack_after, stack_ret_coded, pops, popped}
use Rattle.families.specs.RustObjects.{same_value, same_option, register_step, once_invoke, once_step, vec_invoke, vec_step, pop}
use Rattle.objects.specs.declared.register.RegisterOp.{RegisterOp}
use Rattle.objects.specs.declared.register.RegisterOp.TheVariants.{Write, Read}
use Rattle.objects.specs.declared.register.RegisterRet.{RegisterRet}
use Rattle.objects.specs.declared.register.RegisterRet.TheVariants.{WriteOk, ReadOk}
use Rattle.objects.specs.declared.write_once_register.WORegisterOp.{WORegisterOp}
use Rattle.objects.specs.declared.write_once_register.WORegisterOp.TheVariants.{Write as WOWrite, Read as WORead}
use Rattle.objects.specs.declared.write_once_register.WORegisterRet.{WORegisterRet}
use Rattle.objects.specs.declared.write_once_register.WORegisterRet.TheVariants.{WriteOk as WOWriteOk, WriteFail, ReadOk as WOReadOk}
use Rattle.objects.specs.declared.vec.VecOp.{VecOp}
use Rattle.objects.specs.declared.vec.VecOp.TheVariants.{Push, Pop, Len}
use Rattle.objects.specs.declared.vec.VecRet.{VecRet}
use Rattle.objects.specs.declared.vec.VecRet.TheVariants.{PushOk, PopOk, LenOk}

-- values

value_same : (a b : ℤ) → eq_z a b ≡ same_value a b
unfolding eq_z zigzag
value_same (pos a) (pos b) = grind arith
value_same (pos a) (negsuc b) = grind arith
value_same (negsuc a) (pos b) = grind arith
value_same (negsuc a) (negsuc b) = grind arith

option_same : (a b : Option ℤ) → same_maybe a b ≡ same_option a b
unfolding same_maybe
option_same None None = refl
option_same None (Some b) = refl
option_same (Some a) None = refl
option_same (Some a) (Some b) = value_same a b

-- what is held, and what is written
written_same : (v vp : ℤ) → eq_z vp v ≡ same_value v vp
unfolding eq_z zigzag
written_same (pos a) (pos b) = grind arith
written_same (pos a) (negsuc b) = grind arith
written_same (negsuc a) (pos b) = grind arith
written_same (negsuc a) (negsuc b) = grind arith

-- a stack turned round

pop_last : (vs : List ℤ) (v : ℤ) → pop (vs ++ (v ∷ [])) ≡ (Some v, vs)
pop_last [] v = refl
pop_last (w ∷ []) v = refl
pop_last (w ∷ x ∷ vs) v = rw (pop_last (x ∷ vs) v)

pop_turned : (s : List ℤ) → pop (reverse s) ≡ (first s, reverse (stack_after s Pop))
unfolding stack_after
pop_turned [] = refl
pop_turned (v ∷ s) = ap pop (reverse-cons v s) ∙ pop_last (reverse s) v

-- a step's answer, and what is left after a yes and after a no
abbrev pub stepping : {A : Type 0} → Bool → A → A → Bool × A
stepping b left kept = (b, pick b left kept)

pub same_either : {A : Type 0} (b : Bool) (a : A) → pick b a a ≡ a
same_either true a = refl
same_either false a = refl

-- each family's own operations and returns

pub register_agrees : (v : ℤ) (p : RegisterOp) (q : RegisterRet)
    → register_step v p q ≡ stepping (same_coded (register_ret_coded (register_answer v p)) (register_ret_coded q)) (register_after v p) v
unfolding register_answer register_after register_ret_coded same_coded eq_z
register_agrees v (Write w) WriteOk = refl
register_agrees v (Write w) (ReadOk x) = refl
register_agrees v Read WriteOk = refl
register_agrees v Read (ReadOk x) =
    let e : eq_z v x ≡ same_value v x = value_same v x in
    let h : stepping (eq_z v x) v v ≡ stepping (same_value v x) v v = ap (λ (b : Bool). stepping b v v) e in
    ap (λ (w : ℤ). (same_value v x, w)) (sym (same_either (same_value v x) v)) ∙ sym h

pub once_invokes : (m : Option ℤ) (p : WORegisterOp) → once_invoke m p ≡ (once_answer m p, once_after m p)
unfolding once_answer once_after writes write_answer
once_invokes None (WOWrite v) = refl
once_invokes (Some x) (WOWrite v) = go (same_value v x) (written_same v x)
  where
    go : (b : Bool) → eq_z x v ≡ b → ◌≡◌ {A = WORegisterRet × Option ℤ} (cond b (WOWriteOk, Some v) (WriteFail, Some x)) (write_answer (eq_z x v), Some x)
    go true e = let z : x ≡ v = values.equal x v e in rw (e, z)
    go false e = rw e
once_invokes None WORead = refl
once_invokes (Some x) WORead = refl

pub vec_invokes : (s : List ℤ) (p : VecOp) → vec_invoke (reverse s) p ≡ (stack_answer s p, reverse (stack_after s p))
unfolding stack_answer stack_after
vec_invokes s (Push v) = ap (λ (l : List ℤ). (PushOk, l)) (sym (reverse-cons v s))
vec_invokes s Pop = ap (λ (x : Option ℤ × List ℤ). (PopOk x.0, x.1)) (pop_turned s)
vec_invokes s Len = ap (λ (n : ℕ). (LenOk n, reverse s)) (length-reverse s)

-- an answer that holds a value or nothing, with the number n, after which the same is left
kept : {A : Type 0} (n : ℕ) (a b : Option ℤ) (left : A) → (same_option a b, left) ≡ stepping (same_coded (maybe_coded n a) (maybe_coded n b)) left left
kept n a b left =
    let e : same_coded (maybe_coded n a) (maybe_coded n b) ≡ same_option a b = maybe_same n a b ∙ option_same a b in
    rw (e, same_either (same_option a b) left)

pub once_agrees : (m : Option ℤ) (p : WORegisterOp) (q : WORegisterRet)
    → once_step m p q ≡ stepping (same_coded (once_ret_coded (once_answer m p)) (once_ret_coded q)) (once_after m p) m
unfolding once_answer once_after writes write_answer once_ret_coded same_coded maybe_coded
once_agrees None (WOWrite v) WOWriteOk = refl
once_agrees None (WOWrite v) WriteFail = refl
once_agrees None (WOWrite v) (WOReadOk n) = refl
once_agrees (Some x) (WOWrite v) WOWriteOk = rw (← written_same v x) (go (eq_z x v))
  where
    go : (b : Bool) → (b, Some x) ≡ stepping (same_coded (once_ret_coded (write_answer b)) (once_ret_coded WOWriteOk)) (Some x) (Some x)
    go true = refl
    go false = refl
once_agrees (Some x) (WOWrite v) WriteFail = rw (← written_same v x) (go (eq_z x v))
  where
    go : (b : Bool) → (not b, Some x) ≡ stepping (same_coded (once_ret_coded (write_answer b)) (once_ret_coded WriteFail)) (Some x) (Some x)
    go true = refl
    go false = refl
once_agrees (Some x) (WOWrite v) (WOReadOk n) = go (eq_z x v)
  where
    go : (b : Bool) → (false, Some x) ≡ stepping (same_coded (once_ret_coded (write_answer b)) (once_ret_coded (WOReadOk n))) (Some x) (Some x)
    go true = refl
    go false = refl
once_agrees None WORead WOWriteOk = refl
once_agrees None WORead WriteFail = refl
once_agrees None WORead (WOReadOk n) = kept 2 None n None
once_agrees (Some x) WORead WOWriteOk = refl
once_agrees (Some x) WORead WriteFail = refl
once_agrees (Some x) WORead (WOReadOk n) = kept 2 (Some x) n (Some x)

-- with what is left turned round
abbrev pub turned : Bool × List ℤ → Bool × List ℤ
turned x = (x.0, reverse x.1)

pub vec_agrees : (s : List ℤ) (p : VecOp) (q : VecRet)
    → vec_step (reverse s) p q
    ≡ turned (stepping (same_coded (stack_ret_coded (stack_answer s p)) (stack_ret_coded q)) (stack_after s p) (pick (pick (pops p) (popped q) false) (stack_after s p) s))
unfolding stack_answer stack_after stack_ret_coded same_coded maybe_coded pops popped
vec_agrees s (Push v) PushOk = ap (λ (l : List ℤ). (true, l)) (sym (reverse-cons v s))
vec_agrees s (Push v) (PopOk m) = refl
vec_agrees s (Push v) (LenOk l) = refl
vec_agrees s Pop PushOk = refl
vec_agrees s Pop (PopOk m) =
    ap (λ (x : Option ℤ × List ℤ). (same_option x.0 m, x.1)) (pop_turned s) ∙ ap turned (kept 1 (first s) m (stack_after s Pop))
vec_agrees s Pop (LenOk l) = refl
vec_agrees s Len PushOk = refl
vec_agrees s Len (PopOk m) = refl
vec_agrees s Len (LenOk l) =
    ap (λ (n : ℕ). (eqb n l, reverse s)) (length-reverse s) ∙ ap (λ (x : List ℤ). (eqb (length s) l, reverse x)) (sym (same_either (eqb (length s) l) s))
