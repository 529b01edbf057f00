-- What the code's definitions mean: two words and the items hold a state, and placing does what the abstract object does.
use Rattle.std.specs.Prelude.{◌≡◌, List, [], ◌∷◌, length, ℤ, Option, Some, None, Ok}
use Rattle.std.proofs.Math.Path.{refl, ap}
use Rattle.std.proofs.Common.{sym, ◌∙◌}
use Rattle.values.specs.Sizes.{room}
use Rattle.objects.specs.WriteOnce.{once_after}
use Rattle.objects.specs.Stack.{first, held_values}
use Rattle.families.specs.Families.{State, listed, answers, right, after, same_ret}
use Rattle.families.specs.Family.{Family, registers, write_onces, stacks, family_of, op_family}
use Rattle.families.specs.Placing.{once_of, held_once, held_of, kind_of, answer_of, right_of, held_after, leaves_of}
use Rattle.families.specs.Refusals.{op_belongs}
use Rattle.objects.specs.Storage.{storage_answers, storage_leaves}
use Rattle.families.specs.Room.{Fits, own_op}
use Rattle.families.specs.declared.Kind.{Kind}
use Rattle.families.specs.declared.Kind.TheVariants.{Register, WORegister, Vec}
use Rattle.families.specs.declared.Op.{Op}
use Rattle.families.specs.declared.Op.TheVariants.{Register as ORegister, WORegister as OWORegister, Vec as OVec}
use Rattle.families.specs.declared.Ret.{Ret}
use Rattle.values.specs.declared.held.Held.{Held}

-- What an object holds.
unfoldable pub state_of : Kind → List ℤ → State
state_of (Register v) items = v ∷ []
state_of (WORegister m) items = listed m
state_of (Vec d) items = held_values items d

-- what two words and the items hold, of a family
unfoldable pub state_by : Family → Held → List ℤ → State
state_by registers h items = h.value ∷ []
state_by write_onces h items = listed (once_of h)
state_by stacks h items = held_values items h.height

pub state_by_lem : (k : Kind) (h : Held) (items : List ℤ) → state_of (kind_of k h) items ≡ state_by (family_of k) h items
unfolding state_of kind_of state_by family_of
state_by_lem (Register v) h items = refl
state_by_lem (WORegister m) h items = refl
state_by_lem (Vec d) h items = refl

-- two words hold what they were made from

once_held : (m : Option ℤ) → once_of (held_once m) ≡ m
unfolding once_of held_once
once_held None = refl
once_held (Some v) = refl

pub kind_held : (k : Kind) → kind_of k (held_of k) ≡ k
unfolding kind_of held_of
kind_held (Register v) = refl
kind_held (WORegister m) = ap WORegister (once_held m)
kind_held (Vec d) = refl

-- objects of one family, to which the same operations belong

abbrev pub Alike : Kind → Kind → Type 0
Alike k l = family_of k ≡ family_of l

pub alike_op : (k l : Kind) (op : Op) → Alike k l → op_belongs k op ≡ Ok tt → op_belongs l op ≡ Ok tt
alike_op k l op a b = (own_op l op).1 ((own_op k op).0 b ∙ a)

pub alike_kind : (k : Kind) (h : Held) → Alike k (kind_of k h)
unfolding family_of kind_of
alike_kind (Register v) h = refl
alike_kind (WORegister m) h = refl
alike_kind (Vec d) h = refl

pub first_listed : (m : Option ℤ) → first (listed m) ≡ m
first_listed None = refl
first_listed (Some v) = refl

module _ (items : List ℤ) (full : length items ≡ room) where
  answers_by : (op : Op) (h : Held) → answer_of items h op ≡ answers (state_by (op_family op) h items) op
  unfolding op_family answer_of answers state_by
  answers_by (ORegister p) h = refl
  answers_by (OWORegister p) h = rw (first_listed (once_of h))
  answers_by (OVec p) h = rw (storage_answers items full h.height p)

  right_by : (op : Op) (h : Held) (ret : Ret) → right_of items h op ret ≡ right (state_by (op_family op) h items) op ret
  unfolding right_of right
  right_by (ORegister p) h ret = ap (λ (a : Ret). same_ret a ret) (answers_by (ORegister p) h)
  right_by (OWORegister p) h ret = ap (λ (a : Ret). same_ret a ret) (answers_by (OWORegister p) h)
  right_by (OVec p) h ret = ap (λ (a : Ret). same_ret a ret) (answers_by (OVec p) h)

  leaves_by : (op : Op) (h : Held) → Fits h op
      → state_by (op_family op) (held_after h op) (leaves_of items h op) ≡ after (state_by (op_family op) h items) op
  unfolding op_family held_after leaves_of after state_by
  leaves_by (ORegister p) h f = refl
  leaves_by (OWORegister p) h f = ap listed (once_held (once_after (once_of h) p) ∙ ap (λ (m : Option ℤ). once_after m p) (sym (first_listed (once_of h))))
  leaves_by (OVec p) h f = storage_leaves items full h.height p f

  -- an operation that belongs to an object of the family of k
  module _ (k : Kind) (op : Op) (own : op_belongs k op ≡ Ok tt) where
    state_op : (h : Held) (is : List ℤ) → state_of (kind_of k h) is ≡ state_by (op_family op) h is
    state_op h is = state_by_lem k h is ∙ ap (λ (f : Family). state_by f h is) (sym ((own_op k op).0 own))

    pub placing_answers : (h : Held) → answer_of items h op ≡ answers (state_of (kind_of k h) items) op
    placing_answers h = rw (state_op h items) (answers_by op h)

    pub placing_right : (h : Held) (ret : Ret) → right_of items h op ret ≡ right (state_of (kind_of k h) items) op ret
    placing_right h ret = rw (state_op h items) (right_by op h ret)

    pub placing_leaves : (h : Held) → Fits h op → state_of (kind_of k (held_after h op)) (leaves_of items h op) ≡ after (state_of (kind_of k h) items) op
    placing_leaves h f = rw (state_op (held_after h op) (leaves_of items h op), state_op h items) (leaves_by op h f)
