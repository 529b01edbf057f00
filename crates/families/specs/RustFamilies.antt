-- The families are the Rust's objects: what the abstract object answers, calls right and leaves is what the transcribed `invoke` and
-- `is_valid_step` do, and the object of the port that holds a state is the Rust's that holds it.
use Rattle.std.specs.Prelude.{ℕ, zero, suc, ◌≤◌, ◌≡◌, refl, Bool, true, false, length, get_or, take, ℤ, pos, Option}
use Rattle.std.proofs.Common.{sym, ap, ◌∙◌, take-suc, arith}
use mathlib.Core.List.{List, [], ◌∷◌, ◌++◌, reverse, reverse-cons}
use Rattle.values.specs.Value.{pick}
use Rattle.values.specs.Coded.{same_coded}
use Rattle.objects.specs.Register.{register_answer, register_after, register_ret_coded}
use Rattle.objects.specs.WriteOnce.{once_answer, once_after, once_ret_coded}
use Rattle.objects.specs.Stack.{first, stack_after, pops, held_values}
use Rattle.families.specs.Family.{Family, registers, write_onces, stacks, family_of, op_family, ret_family, family_number}
use Rattle.families.specs.Codes.{ret_coded}
use Rattle.families.specs.Families.{State, value_of, listed, answers, after, same_ret, right}
use Rattle.families.specs.Objects.{new_register, new_once, new_stack, stand_in}
use Rattle.families.specs.Placing.{takes, taken, leaves_wrong}
use Rattle.families.specs.States.{state_of, first_listed}
use Rattle.families.specs.RustObjects.{RefObj, Register, WORegister, Vec, invoke, is_valid_step, default_of, from_bottom, ref_obj_of, ref_obj}
use Rattle.objects.specs.declared.register.RegisterOp.TheVariants.{Write, Read}
use Rattle.objects.specs.declared.write_once_register.WORegisterRet.{WORegisterRet}
use Rattle.objects.specs.declared.vec.VecRet.{VecRet}
use Rattle.families.specs.declared.Kind.{Kind}
use Rattle.families.specs.declared.Kind.TheVariants.{Register as KRegister, WORegister as KWORegister, Vec as KVec}
use Rattle.families.specs.declared.Op.{Op}
use Rattle.families.specs.declared.Op.TheVariants.{Register as ORegister, WORegister as OWORegister, Vec as OVec}
use Rattle.families.specs.declared.Ret.{Ret}
use Rattle.families.specs.declared.Ret.TheVariants.{Register as RRegister, WORegister as RWORegister, Vec as RVec}
use Rattle.families.specs.RustEach.{register_agrees, once_invokes, vec_invokes, once_agrees, vec_agrees, same_either}

-- The Rust's object of a family that holds a state: of a stack, whose values are listed top first, they are turned round.
unfoldable pub holding : Family → State → RefObj
holding registers s = Register (value_of s)
holding write_onces s = WORegister (first s)
holding stacks s = Vec (reverse s)

-- The Rust's invoke answers and leaves what the abstract object does.
pub invoke_same : (s : State) (op : Op) → invoke (holding (op_family op) s) op ≡ (answers s op, holding (op_family op) (after s op))
unfolding holding op_family answers after register_answer register_after
invoke_same s (ORegister (Write v)) = refl
invoke_same s (ORegister Read) = refl
invoke_same s (OWORegister p) =
    ap (λ (x : WORegisterRet × Option ℤ). (RWORegister x.0, WORegister x.1)) (once_invokes (first s) p)
    ∙ ap (λ (m : Option ℤ). (RWORegister (once_answer (first s) p), WORegister m)) (sym (first_listed (once_after (first s) p)))
invoke_same s (OVec p) = ap (λ (x : VecRet × List ℤ). (RVec x.0, Vec x.1)) (vec_invokes s p)

-- What a step leaves: after a yes what the operation leaves, and so after a no that leaves it all the same; else what was there.
abbrev pub left_after : State → Op → Ret → State
left_after s op ret = pick (right s op ret) (after s op) (pick (leaves_wrong op ret) (after s op) s)

-- The Rust's is_valid_step says yes exactly to a right return, and leaves that.
pub step_same : (s : State) (op : Op) (ret : Ret) → is_valid_step (holding (op_family op) s) op ret ≡ (right s op ret, holding (op_family op) (left_after s op ret))
unfolding holding op_family right answers after same_ret ret_family family_number ret_coded leaves_wrong takes taken
step_same s (ORegister p) (RRegister q) =
    let b = same_coded (register_ret_coded (register_answer (value_of s) p)) (register_ret_coded q) in
    ap (λ (x : Bool × ℤ). (x.0, Register x.1)) (register_agrees (value_of s) p q) ∙ ap (λ (v : ℤ). (b, Register v)) (go b)
  where
    go : (b : Bool) → pick b (register_after (value_of s) p) (value_of s) ≡ value_of (pick b (register_after (value_of s) p ∷ []) s)
    go true = refl
    go false = refl
step_same s (ORegister p) (RWORegister q) = refl
step_same s (ORegister p) (RVec q) = refl
step_same s (OWORegister p) (RRegister q) = refl
step_same s (OWORegister p) (RWORegister q) =
    let b = same_coded (once_ret_coded (once_answer (first s) p)) (once_ret_coded q) in
    ap (λ (x : Bool × Option ℤ). (x.0, WORegister x.1)) (once_agrees (first s) p q) ∙ ap (λ (m : Option ℤ). (b, WORegister m)) (go b)
  where
    go : (b : Bool) → pick b (once_after (first s) p) (first s) ≡ first (pick b (listed (once_after (first s) p)) s)
    go true = sym (first_listed (once_after (first s) p))
    go false = refl
step_same s (OWORegister p) (RVec q) = refl
step_same s (OVec p) (RRegister q) = ap (λ (b : Bool). (false, Vec (reverse (pick b (stack_after s p) s)))) (sym (same_either (pops p) false))
step_same s (OVec p) (RWORegister q) = ap (λ (b : Bool). (false, Vec (reverse (pick b (stack_after s p) s)))) (sym (same_either (pops p) false))
step_same s (OVec p) (RVec q) = ap (λ (x : Bool × List ℤ). (x.0, Vec x.1)) (vec_agrees s p q)

-- An object of the port, of which a state says what it holds, is the Rust's object that holds that.

bottom_first : (items : List ℤ) (d : ℕ) → from_bottom items d ≡ reverse (held_values items d)
unfolding held_values
bottom_first items zero = refl
bottom_first items (suc d) =
    ap (λ (l : List ℤ). l ++ (get_or items d (pos 0) ∷ [])) (bottom_first items d) ∙ sym (reverse-cons (get_or items d (pos 0)) (held_values items d))

pub object_same : (k : Kind) (items : List ℤ) → ref_obj_of k items ≡ holding (family_of k) (state_of k items)
unfolding holding family_of state_of
object_same (KRegister v) items = refl
object_same (KWORegister m) items = ap WORegister (sym (first_listed m))
object_same (KVec d) items = ap Vec (bottom_first items d)

-- What stands in for a start that is refused is the Rust's default of its family.
pub default_same : (k : Kind) → ref_obj (stand_in k) ≡ default_of (family_of k)
unfolding stand_in new_register new_once new_stack family_of
default_same (KRegister v) = refl
default_same (KWORegister m) = refl
default_same (KVec d) = refl

-- A stack's values, the bottom first, are the first of its items.
pub bottom_take : (items : List ℤ) (d : ℕ) → d ≤ length items → from_bottom items d ≡ take d items
bottom_take items zero h = refl
bottom_take items (suc d) h =
    ap (λ (l : List ℤ). l ++ (get_or items d (pos 0) ∷ [])) (bottom_take items d (omega arith)) ∙ sym (take-suc items d (pos 0) (omega arith))
