-- The families as one abstract object: what it holds, what it answers, which returns are right, and what it leaves.
use Rattle.std.specs.Prelude.{Bool, false, List, [], ◌∷◌, ℤ, pos, eqb, Option, Some, None}
use Rattle.history.specs.Object.{Object}
use Rattle.values.specs.Value.{pick}
use Rattle.values.specs.Coded.{same_coded}
use Rattle.families.specs.Family.{ret_family, family_number}
use Rattle.objects.specs.Register.{register_answer, register_after}
use Rattle.objects.specs.WriteOnce.{once_answer, once_after}
use Rattle.objects.specs.Stack.{first, stack_answer, stack_after}
use Rattle.families.specs.Codes.{ret_coded}
use Rattle.families.specs.declared.Op.{Op}
use Rattle.families.specs.declared.Op.TheVariants.{Register as ORegister, WORegister as OWORegister, Vec as OVec}
use Rattle.families.specs.declared.Ret.{Ret}
use Rattle.families.specs.declared.Ret.TheVariants.{Register as RRegister, WORegister as RWORegister, Vec as RVec}

-- What an object holds, as a list of values: a register its one, a write-once register none or one, a stack all of them, the top first.
abbrev pub State : Type 0
State = List ℤ

-- a register's value
abbrev pub value_of : State → ℤ
value_of [] = pos 0
value_of (v ∷ vs) = v

-- nothing or a value, as a list
abbrev pub listed : Option ℤ → State
listed None = []
listed (Some v) = v ∷ []

unfoldable pub answers : State → Op → Ret
answers s (ORegister p) = RRegister (register_answer (value_of s) p)
answers s (OWORegister p) = RWORegister (once_answer (first s) p)
answers s (OVec p) = RVec (stack_answer s p)

unfoldable pub after : State → Op → State
after s (ORegister p) = register_after (value_of s) p ∷ []
after s (OWORegister p) = listed (once_after (first s) p)
after s (OVec p) = stack_after s p

-- the same return: of one family, and told by the same numbers
unfoldable pub same_ret : Ret → Ret → Bool
same_ret a b = pick (eqb (family_number (ret_family a)) (family_number (ret_family b))) (same_coded (ret_coded a) (ret_coded b)) false

-- A return is right: in these families exactly if it is the one that the object answers.
unfoldable pub right : State → Op → Ret → Bool
right s (ORegister p) ret = same_ret (answers s (ORegister p)) ret
right s (OWORegister p) ret = same_ret (answers s (OWORegister p)) ret
right s (OVec p) ret = same_ret (answers s (OVec p)) ret

abbrev pub families : Object
families = record {
  State = State;
  Op = Op;
  Ret = Ret;
  ok = right;
  answers = answers;
  after = after;
}
