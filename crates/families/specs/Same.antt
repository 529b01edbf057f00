-- The test for "the same" return is equality, and in these families a return is right exactly if it is the object's answer.
use Rattle.std.specs.Prelude.{◌≡◌, refl, true, ◌↔◌, eqb}
use Rattle.std.proofs.Common.{sym, ap, ◌∙◌, eq-eqb, eqb-true}
use Rattle.history.specs.Object.{Lawful}
use Rattle.values.specs.Coded.{same_coded}
use Rattle.values.specs.SameValues.{Decides, both, numbers}
use Rattle.families.specs.Family.{ret_family, family_number, same_family}
use Rattle.families.specs.Codes.{ret_coded}
use Rattle.families.specs.Families.{State, same_ret, answers, right, families}
use Rattle.families.specs.CodesTell.{numbers_tell}
use Rattle.families.specs.declared.Op.{Op}
use Rattle.families.specs.declared.Op.TheVariants.{Register as ORegister, WORegister as OWORegister, Vec as OVec}
use Rattle.families.specs.declared.Ret.{Ret}
use Rattle.families.specs.declared.Ret.TheVariants.{Register as RRegister, WORegister as RWORegister, Vec as RVec}
use Rattle.families.specs.contracts.RetPartialEq.TheImpl as equality
use Rattle.objects.specs.RegisterTells.{register_ret_same}
use Rattle.objects.specs.OnceTells.{once_ret_same}
use Rattle.objects.specs.StackTells.{stack_ret_same}

-- two returns are the same exactly if they are equal
pub returns : Decides same_ret
unfolding same_ret
returns = record {
  equal = λ a b h. same a b (both (eqb (family_number (ret_family a)) (family_number (ret_family b))) _ h);
  self = λ a. rw (eq-eqb (family_number (ret_family a)) (family_number (ret_family a)) refl) (numbers.self (ret_coded a));
}
  where
    same : (a b : Ret) → (eqb (family_number (ret_family a)) (family_number (ret_family b)) ≡ true) × (same_coded (ret_coded a) (ret_coded b) ≡ true) → a ≡ b
    same a b h =
        numbers_tell a b (same_family (ret_family a) (ret_family b) (eqb-true (family_number (ret_family a)) (family_number (ret_family b)) h.0))
        (numbers.equal (ret_coded a) (ret_coded b) h.1)

-- and `==` says the same of them
pub ret_same : (a b : Ret) → (equality.ghosts).eq a b ≡ same_ret a b
unfolding same_ret ret_family family_number ret_coded
ret_same (RRegister a) (RRegister b) = register_ret_same a b
ret_same (RRegister a) (RWORegister b) = refl
ret_same (RRegister a) (RVec b) = refl
ret_same (RWORegister a) (RRegister b) = refl
ret_same (RWORegister a) (RWORegister b) = once_ret_same a b
ret_same (RWORegister a) (RVec b) = refl
ret_same (RVec a) (RRegister b) = refl
ret_same (RVec a) (RWORegister b) = refl
ret_same (RVec a) (RVec b) = stack_ret_same a b

-- the families in which a right return is the object's answer: all of these

right_same : (s : State) (op : Op) (ret : Ret) → right s op ret ≡ same_ret (answers s op) ret
unfolding right
right_same s (ORegister p) ret = refl
right_same s (OWORegister p) ret = refl
right_same s (OVec p) ret = refl

pub right_answer : (s : State) (op : Op) (ret : Ret) → right s op ret ≡ true ↔ answers s op ≡ ret
right_answer s op ret = (
  λ h. returns.equal (answers s op) ret (sym (right_same s op ret) ∙ h),
  λ e. right_same s op ret ∙ ap (same_ret (answers s op)) (sym e) ∙ returns.self (answers s op),
)

-- what an object answers is right
pub lawful : Lawful families
lawful = record { answers_ok = λ s op. (right_answer s op (answers s op)).1 refl }
