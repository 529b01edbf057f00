-- The laws of a step and of a history of steps.
use Rattle.std.specs.Prelude.{Bool, ◌↔◌, Result, Ok, Err}
use Rattle.std.proofs.Math.Path.{◌≡◌, refl, ap}
use Rattle.std.proofs.Common.{sym, ◌∙◌}
use Rattle.std.proofs.Math.Bool.{true, false}
use Rattle.values.specs.Value.{pick}
use Rattle.families.specs.Placing.{held_of, leaves_wrong}
use Rattle.families.specs.Refusals.{ret_belongs, room_check, took_room, step_room}
use Rattle.families.specs.Bare.{answer_belongs, answer_untaken, wrong_room, right_answered}
use Rattle.families.specs.declared.Object.{Object}
use Rattle.families.specs.declared.Op.{Op}
use Rattle.families.specs.declared.Ret.{Ret}
use Rattle.values.specs.declared.refusal.Refusal.{Refusal}
use Rattle.semantics.specs.Calls.{invoke_check, step_check, answer_by, right_by, left_by, invoke_by, invoke_of, stepped, step_by, step_of}
use Rattle.semantics.specs.Clear.{InShape, InvokeClear, invoke_clear, StepClear, step_clear}
use Rattle.semantics.specs.Invoking.{invoke_answers_by, invoke_leaves_by, left_in_shape}
use Rattle.semantics.specs.declared.Stepped.{Stepped}

module _ (o : Object) (op : Op) (ret : Ret) where
  -- what a step comes to
  data Case : Stepped → Type 0 where
    refused : {r : Refusal} → Case (stepped (Err r) o)
    yes : StepClear o.kind op ret → right_by o op ret ≡ true → Case (stepped (Ok true) (left_by o op))
    no_pops : StepClear o.kind op ret → leaves_wrong op ret ≡ true → Case (stepped (Ok false) (left_by o op))
    no_keeps : leaves_wrong op ret ≡ false → Case (stepped (Ok false) o)

  step_case : Case (step_of o op ret)
  unfolding step_of
  step_case = checked (step_check o.kind op ret) refl
    where
      wrong : StepClear o.kind op ret → (b : Bool) → leaves_wrong op ret ≡ b → Case (pick b (stepped (Ok false) (left_by o op)) (stepped (Ok false) o))
      wrong c true w = no_pops c w
      wrong c false w = no_keeps w

      judged : StepClear o.kind op ret → (b : Bool) → right_by o op ret ≡ b
          → Case (pick b (stepped (Ok true) (left_by o op)) (pick (leaves_wrong op ret) (stepped (Ok false) (left_by o op)) (stepped (Ok false) o)))
      judged c true e = yes c e
      judged c false e = wrong c (leaves_wrong op ret) refl

      checked : (c : Result Unit Refusal) → step_check o.kind op ret ≡ c → Case (step_by c o op ret)
      checked (Err r) e = refused
      checked (Ok tt) e = judged ((step_clear o.kind op ret).0 e) (right_by o op ret) refl

  yes_of : {x : Stepped} → Case x → x.said ≡ Ok true → StepClear o.kind op ret × (right_by o op ret ≡ true) × (x.object ≡ left_by o op)
  yes_of refused e = absurd cc
  yes_of (yes c a) e = (c, a, refl)
  yes_of (no_pops c w) e = absurd cc
  yes_of (no_keeps w) e = absurd cc

  -- `is_valid_step` says yes exactly if nothing is refused and the return is right; then the object is as the operation leaves it

  pub step_right : (step_of o op ret).said ≡ (Ok true) ↔ StepClear o.kind op ret × (right_by o op ret ≡ true)
  unfolding step_of
  step_right = (λ e. let y = yes_of step_case e in (y.0, y.1), λ y. rw ((step_clear o.kind op ret).1 y.0, y.1))

  pub step_yes_left : (step_of o op ret).said ≡ Ok true → (step_of o op ret).object ≡ left_by o op
  step_yes_left e = (yes_of step_case e).2

  -- where the return is the object's own, the step is as clear as the operation

  pub invoke_of_step : StepClear o.kind op ret → answer_by o op ≡ ret → InvokeClear o.kind op
  unfolding step_room answer_by
  invoke_of_step c e = record { in_shape = c.in_shape; own = c.own; has_room = go (took_room ret) refl }
    where
      go : (b : Bool) → took_room ret ≡ b → room_check (held_of o.kind) op ≡ Ok tt
      go true h = let p : pick (took_room ret) (room_check (held_of o.kind) op) (Ok tt) ≡ Ok tt = c.has_room in rw h at p
      go false h = answer_untaken o.items (held_of o.kind) op (ap took_room e ∙ h)

  step_of_invoke : InvokeClear o.kind op → answer_by o op ≡ ret → StepClear o.kind op ret
  unfolding step_room answer_by
  step_of_invoke c e = record {
    in_shape = c.in_shape;
    own = c.own;
    own_ret = ap (ret_belongs o.kind) (sym e) ∙ answer_belongs o.kind o.items (held_of o.kind) op c.own;
    has_room = go (took_room ret);
  }
    where
      go : (b : Bool) → pick b (room_check (held_of o.kind) op) (Ok tt) ≡ Ok tt
      go true = c.has_room
      go false = refl

  invoke_returned : (invoke_of o op).answer ≡ Ok ret → InvokeClear o.kind op × (answer_by o op ≡ ret)
  unfolding invoke_of
  invoke_returned e = go (invoke_check o.kind op) refl e
    where
      go : (c : Result Unit Refusal) → invoke_check o.kind op ≡ c → (invoke_by c o op).answer ≡ Ok ret → InvokeClear o.kind op × (answer_by o op ≡ ret)
      go (Err r) h e = absurd cc
      go (Ok tt) h e = ((invoke_clear o.kind op).0 h, cc)

  pub right_own : right_by o op ret ≡ true ↔ answer_by o op ≡ ret
  unfolding answer_by
  right_own = right_answered o.items (held_of o.kind) op ret

  -- in these families that is exactly when `invoke` would give that return
  pub step_yes : (step_of o op ret).said ≡ (Ok true) ↔ (invoke_of o op).answer ≡ Ok ret
  step_yes = (λ e. forth (step_right.0 e), λ e. back (invoke_returned e))
    where
      forth : StepClear o.kind op ret × (right_by o op ret ≡ true) → (invoke_of o op).answer ≡ Ok ret
      forth y = let a = right_own.0 y.1 in invoke_answers_by o op (invoke_of_step y.0 a) ∙ ap Ok a

      back : InvokeClear o.kind op × (answer_by o op ≡ ret) → (step_of o op ret).said ≡ Ok true
      back y = step_right.1 (step_of_invoke y.0 y.1, right_own.1 y.1)

  -- and after a yes the object is the one that `invoke` leaves
  pub step_yes_leaves : (step_of o op ret).said ≡ Ok true → (step_of o op ret).object ≡ (invoke_of o op).object
  step_yes_leaves e =
      let y = step_right.0 e in
      step_yes_left e ∙ sym (invoke_leaves_by o op (invoke_of_step y.0 (right_own.0 y.1)))

  -- after a no it is as it came, but for a Pop with a PopOk, which pops all the same
  pub step_no_keeps : (step_of o op ret).said ≡ Ok false → leaves_wrong op ret ≡ false → (step_of o op ret).object ≡ o
  step_no_keeps e w = go step_case e
    where
      go : {x : Stepped} → Case x → x.said ≡ Ok false → x.object ≡ o
      go refused e = refl
      go (yes c a) e = absurd cc
      go (no_pops c v) e = absurd cc
      go (no_keeps v) e = refl

  pub step_no_pops : (step_of o op ret).said ≡ Ok false → leaves_wrong op ret ≡ true → (step_of o op ret).object ≡ (invoke_of o op).object
  step_no_pops e w = go step_case e
    where
      go : {x : Stepped} → Case x → x.said ≡ Ok false → x.object ≡ (invoke_of o op).object
      go refused e = absurd cc
      go (yes c a) e = absurd cc
      go (no_pops c v) e =
          sym (invoke_leaves_by o op (record { in_shape = c.in_shape; own = c.own; has_room = wrong_room (held_of o.kind) op ret v }))
      go (no_keeps v) e = absurd cc

  -- after a refusal it is as it came
  pub step_refused_keeps : (r : Refusal) → (step_of o op ret).said ≡ Err r → (step_of o op ret).object ≡ o
  step_refused_keeps r e = go step_case e
    where
      go : {x : Stepped} → Case x → x.said ≡ Err r → x.object ≡ o
      go refused e = refl
      go (yes c a) e = absurd cc
      go (no_pops c v) e = absurd cc
      go (no_keeps v) e = refl

  pub step_in_shape : InShape o.kind → InShape (step_of o op ret).object.kind
  step_in_shape h = go step_case
    where
      go : {x : Stepped} → Case x → InShape x.object.kind
      go refused = h
      go (yes c a) = left_in_shape o op h c.own
      go (no_pops c v) = left_in_shape o op h c.own
      go (no_keeps v) = h
