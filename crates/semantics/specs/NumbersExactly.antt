-- `invoke` and a step give 9, 3 and 7 exactly when document 01 says, and a refusal hands the object back as it came.
use Rattle.std.specs.Prelude.{ℕ, Bool, ◌⊎◌, eqb, Result, Ok, Err}
use Rattle.std.proofs.Math.Path.{◌≡◌, refl, ap₂}
use Rattle.std.proofs.Common.{sym, ap, ◌∙◌, arith}
use Rattle.std.proofs.Math.Bool.{true, false}
use Rattle.std.proofs.Math.Logic.{inl, inr, ⊎_elim}
use Rattle.values.specs.Value.{pick}
use Rattle.values.specs.Checks.{number_of, in_order}
use Rattle.families.specs.Placing.{held_of, leaves_wrong}
use Rattle.families.specs.Refusals.{op_belongs, ret_belongs, shape_check, room_check, step_room}
use Rattle.families.specs.BareRefusals.{TooDeep, OtherOp, OtherRet, OtherStep, TookRoom, Crowded, CrowdedStep, Refuses, deep_refused, op_refused, ret_refused, room_refused, step_room_refused}
use Rattle.families.specs.Drawn.{full_shaped, crowded_own, push_wrong}
use Rattle.families.specs.Room.{not_event}
use Rattle.families.specs.declared.Object.{Object}
use Rattle.families.specs.declared.Op.{Op}
use Rattle.families.specs.declared.Ret.{Ret}
use Rattle.values.specs.declared.refusal.Refusal.{Refusal}
use Rattle.values.specs.declared.refusal.Refusal.TheVariants.{OtherFamily, NoRoom, StartTooDeep, OutOfShape}
use Rattle.semantics.specs.Calls.{invoke_check, step_check, right_by, left_by, invoke_by, invoke_of, stepped, step_by, step_of}
use Rattle.semantics.specs.Steps.{step_right, step_no_keeps}
use Rattle.semantics.specs.Numbers.{answer_number, said_number, Numbered}

module _ (deep other full : Type 0) where
  pub at_nine : deep → Numbered 9 deep other full
  at_nine d = record {
    nine = (λ e. d, λ x. refl);
    three = (λ e. absurd (omega arith), λ x. absurd (x.0 d));
    seven = (λ e. absurd (omega arith), λ x. absurd (x.0 d));
    none = (λ e. absurd (omega arith), λ x. absurd (x.0 d));
    only = inl refl;
  }

  pub at_three : (¬ deep) → other → Numbered 3 deep other full
  at_three s o = record {
    nine = (λ e. absurd (omega arith), λ d. absurd (s d));
    three = (λ e. (s, o), λ x. refl);
    seven = (λ e. absurd (omega arith), λ x. absurd (x.1 o));
    none = (λ e. absurd (omega arith), λ x. absurd (x.1 o));
    only = inr (inl refl);
  }

  pub at_seven : (¬ deep) → (¬ other) → full → Numbered 7 deep other full
  at_seven s o f = record {
    nine = (λ e. absurd (omega arith), λ d. absurd (s d));
    three = (λ e. absurd (omega arith), λ x. absurd (o x.1));
    seven = (λ e. (s, o, f), λ x. refl);
    none = (λ e. absurd (omega arith), λ x. absurd (x.2 f));
    only = inr (inr (inl refl));
  }

  pub at_none : (¬ deep) → (¬ other) → (¬ full) → Numbered 0 deep other full
  at_none s o f = record {
    nine = (λ e. absurd (omega arith), λ d. absurd (s d));
    three = (λ e. absurd (omega arith), λ x. absurd (o x.1));
    seven = (λ e. absurd (omega arith), λ x. absurd (f x.2));
    none = (λ e. (s, o, f), λ x. refl);
    only = inr (inr (inr refl));
  }

-- a number says which refusal it is of

refusal_at : ℕ → Refusal
refusal_at n = pick (eqb n 3) OtherFamily (pick (eqb n 7) NoRoom (pick (eqb n 8) StartTooDeep OutOfShape))

refusal_at_lem : (r : Refusal) → refusal_at (number_of r) ≡ r
unfolding refusal_at number_of
refusal_at_lem OtherFamily = refl
refusal_at_lem NoRoom = refl
refusal_at_lem StartTooDeep = refl
refusal_at_lem OutOfShape = refl

pub number_tells : (s : Result Bool Refusal) (r : Refusal) → said_number s ≡ number_of r → s ≡ Err r
number_tells (Ok true) r e = absurd ((not_event r).0 (sym e))
number_tells (Ok false) r e = absurd ((not_event r).0 (sym e))
number_tells (Err q) r e = ap Err (sym (refusal_at_lem q) ∙ ap refusal_at e ∙ refusal_at_lem r)

pub not_eight : {n : ℕ} {deep other full : Type 0} → Numbered n deep other full → n ≡ 8 → ⊥
not_eight {n = n} w e = go w.only
  where
    go : (n ≡ 9) ⊎ (n ≡ 3) ⊎ (n ≡ 7) ⊎ (n ≡ 0) → ⊥
    go (inl x) = omega arith
    go (inr (inl x)) = omega arith
    go (inr (inr (inl x))) = omega arith
    go (inr (inr (inr x))) = omega arith

-- the number of a check, and checks one after the other

check_number : Result Unit Refusal → ℕ
check_number (Ok tt) = 0
check_number (Err r) = number_of r

in_order_flat : (a b c : Result Unit Refusal) → in_order a (in_order b c) ≡ in_order (in_order a b) c
unfolding in_order
in_order_flat (Ok tt) b c = refl
in_order_flat (Err r) b c = refl

module _ (r : Refusal) (P Q : Type 0) (a b : Result Unit Refusal) where
  either_refused : Refuses r P a → Refuses r Q b → Refuses r (P ⊎ Q) (in_order a b)
  unfolding in_order
  either_refused (inl x) y = inl (rw x.0, inl x.1)
  either_refused (inr x) (inl y) = inl (rw x.0 y.0, inr y.1)
  either_refused (inr x) (inr y) = inr (rw x.0 y.0, λ z. ⊎_elim x.1 y.1 z)

module _ (deep other full : Type 0) (a b c : Result Unit Refusal) where
  in_turn : Refuses OutOfShape deep a → Refuses OtherFamily other b → (¬ other → Refuses NoRoom full c)
      → Numbered (check_number (in_order a (in_order b c))) deep other full
  unfolding in_order number_of check_number
  in_turn (inl x) y z = rw x.0 (at_nine deep other full x.1)
  in_turn (inr x) (inl y) z = rw (x.0, y.0) (at_three deep other full x.1 y.1)
  in_turn (inr x) (inr y) z = room (z y.1)
    where
      room : Refuses NoRoom full c → Numbered (check_number (in_order a (in_order b c))) deep other full
      room (inl w) = rw (x.0, y.0, w.0) (at_seven deep other full x.1 y.1 w.1)
      room (inr w) = rw (x.0, y.0, w.0) (at_none deep other full x.1 y.1 w.1)

-- `invoke`: 9 for a depth over 96, 3 for an operation of another family, 7 for a Push on a stack of 96.
module _ (o : Object) (op : Op) where
  invoke_numbered : (c : Result Unit Refusal) → answer_number (invoke_by c o op).answer ≡ check_number c
  unfolding check_number
  invoke_numbered (Ok tt) = refl
  invoke_numbered (Err r) = refl

  pub invoke_numbers : Numbered (answer_number (invoke_of o op).answer) (TooDeep o.kind) (OtherOp o.kind op) (Crowded o.kind op)
  unfolding invoke_of invoke_check
  invoke_numbers =
      rw (invoke_numbered (invoke_check o.kind op))
      (in_turn (TooDeep o.kind) (OtherOp o.kind op) (Crowded o.kind op)
      (shape_check o.kind) (op_belongs o.kind op) (room_check (held_of o.kind) op)
      (deep_refused o.kind) (op_refused o.kind op) (room_refused o.kind op))

  -- every refusal hands the object back as it came
  pub invoke_refused_keeps : (r : Refusal) → (invoke_of o op).answer ≡ Err r → (invoke_of o op).object ≡ o
  unfolding invoke_of
  invoke_refused_keeps r e = go (invoke_check o.kind op) e
    where
      go : (c : Result Unit Refusal) → (invoke_by c o op).answer ≡ Err r → (invoke_by c o op).object ≡ o
      go (Ok tt) e = absurd cc
      go (Err s) e = refl

-- A step: 9 for a depth over 96, 3 for an operation or a return of another family, 7 for a Push with PushOk on a stack of 96.
module _ (o : Object) (op : Op) (ret : Ret) where
  step_numbered : (c : Result Unit Refusal) → said_number (step_by c o op ret).said ≡ check_number c
  unfolding check_number
  step_numbered (Err r) = refl
  step_numbered (Ok tt) = judged (right_by o op ret) (leaves_wrong op ret)
    where
      judged : (b c : Bool) → said_number (pick b (stepped (Ok true) (left_by o op)) (pick c (stepped (Ok false) (left_by o op)) (stepped (Ok false) o))).said ≡ 0
      judged true c = refl
      judged false true = refl
      judged false false = refl

  pub step_numbers : Numbered (said_number (step_of o op ret).said) (TooDeep o.kind) (OtherStep o.kind op ret)
      (CrowdedStep o.kind op ret)
  unfolding step_of step_check
  step_numbers =
      rw (step_numbered (step_check o.kind op ret), in_order_flat (op_belongs o.kind op) (ret_belongs o.kind ret) (step_room (held_of o.kind) op ret))
      (in_turn (TooDeep o.kind) (OtherStep o.kind op ret) (CrowdedStep o.kind op ret)
      (shape_check o.kind) (in_order (op_belongs o.kind op) (ret_belongs o.kind ret)) (step_room (held_of o.kind) op ret)
      (deep_refused o.kind)
      (either_refused OtherFamily (OtherOp o.kind op) (OtherRet o.kind ret) (op_belongs o.kind op) (ret_belongs o.kind ret) (op_refused o.kind op) (ret_refused o.kind ret))
      (λ n. step_room_refused o.kind op ret (λ x. n (inl x))))

  -- a wrong return of which nothing is refused is a no; it changes nothing but for a Pop with PopOk
  pub wrong_keeps : said_number (step_of o op ret).said ≡ 0 → right_by o op ret ≡ false → leaves_wrong op ret ≡ false → step_of o op ret ≡ stepped (Ok false) o
  unfolding number_of
  wrong_keeps n w l = go (step_of o op ret).said refl
    where
      go : (s : Result Bool Refusal) → (step_of o op ret).said ≡ s → step_of o op ret ≡ stepped (Ok false) o
      go (Ok true) e =
          let t : right_by o op ret ≡ true = ((step_right o op ret).0 e).1 in
          absurd cc
      go (Ok false) e = ap₂ stepped e (step_no_keeps o op ret e l)
      go (Err r) e = absurd ((not_event r).0 (sym (ap said_number e) ∙ n))

  -- a Push with another return on a stack of 96 is a no that changes nothing
  pub untaken_no : Crowded o.kind op → ¬ OtherRet o.kind ret → ¬ TookRoom ret → step_of o op ret ≡ stepped (Ok false) o
  untaken_no x own n =
      let w = push_wrong o.items (held_of o.kind) op ret x.1 n in
      wrong_keeps
      (step_numbers.none.1 (full_shaped o.kind x.0, λ z. ⊎_elim (crowded_own o.kind op x) own z, λ z. n z.2))
      w.0
      w.1
