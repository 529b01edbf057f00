-- The records that calls made are those of which `then` keeps what is said; any other gets 9 from it.
use Rattle.std.specs.Prelude.{ℕ, ◌≡◌, refl, ◌↔◌, ◌≢◌, ◌⊎◌, Bool, true, false, Result, Ok, Err}
use Rattle.std.proofs.Common.{sym, ap, ap₂, inl, inr, ⊎_elim, arith}
use Rattle.std.proofs.Math.Path.{subst}
use Rattle.values.specs.Checks.{number_of}
use Rattle.families.specs.Placing.{held_of}
use Rattle.families.specs.BareRefusals.{TooDeep, Full}
use Rattle.families.specs.Drawn.{other_op, crowding, full_shaped, erring}
use Rattle.families.specs.declared.Object.{Object}
use Rattle.families.specs.declared.Op.{Op}
use Rattle.families.specs.declared.Ret.{Ret}
use Rattle.values.specs.declared.refusal.Refusal.{Refusal}
use Rattle.values.specs.declared.refusal.Refusal.TheVariants.{OtherFamily, NoRoom, StartTooDeep, OutOfShape}
use Rattle.semantics.specs.Calls.{stepped, step_of, begun_of, then_of}
use Rattle.semantics.specs.Numbers.{said_number}
use Rattle.semantics.specs.NumbersExactly.{number_tells, step_numbers, wrong_keeps}
use Rattle.semantics.specs.Steps.{step_refused_keeps}
use Rattle.semantics.specs.Then.{CouldSay, Could, could_begin, could_step, could_or_not, could_then, could_not_then, begun_deep, begun_shaped}
use Rattle.semantics.specs.declared.Stepped.{Stepped}

-- Calls made a record: `is_valid_history`, a step, or `then` of one that they made.
pub data Made : Stepped → Type 0 where
  begun : (o : Object) → Made (begun_of o)
  step : (o : Object) (op : Op) (ret : Ret) → Made (step_of o op ret)
  next : (x : Stepped) (op : Op) (ret : Ret) → Made x → Made (then_of x op ret)

could_next : (x : Stepped) (op : Op) (ret : Ret) → Could x → Could (then_of x op ret)
could_next x op ret c = go x.said x.object c
  where
    go : (s : Result Bool Refusal) (o : Object) → CouldSay o.kind s → Could (then_of (stepped s o) op ret)
    go (Ok true) o c = subst Could (sym (could_then op ret (Ok true) o c)) (could_step o op ret)
    go (Ok false) o c = subst Could (sym (could_then op ret (Ok false) o c)) c
    go (Err r) o c = subst Could (sym (could_then op ret (Err r) o c)) c

made_could : {x : Stepped} → Made x → Could x
made_could (begun o) = could_begin o
made_could (step o op ret) = could_step o op ret
made_could (next x op ret m) = could_next x op ret (made_could m)

-- a record of each kind is one that calls make

refused_made : (o : Object) (op : Op) (ret : Ret) (r : Refusal) → (step_of o op ret).said ≡ Err r → Made (stepped (Err r) o)
refused_made o op ret r e = subst Made (ap₂ stepped e (step_refused_keeps o op ret r e)) (step o op ret)

could_made : (s : Result Bool Refusal) (o : Object) → CouldSay o.kind s → Made (stepped s o)
unfolding number_of
could_made (Ok true) o n = subst Made (begun_shaped o n) (begun o)
could_made (Ok false) o n =
    let w = erring o.kind in
    subst Made
    (wrong_keeps o w.op w.ret
    ((step_numbers o w.op w.ret).none.1 (n, λ z. ⊎_elim (λ x. x w.own) (λ x. x w.own_ret) z, λ z. w.untaken z.2))
    (w.wrong o.items (held_of o.kind))
    w.keeps)
    (step o w.op w.ret)
could_made (Err OtherFamily) o n =
    let w = other_op o.kind in
    let q = (erring o.kind).ret in
    refused_made o w.0 q OtherFamily (number_tells _ OtherFamily ((step_numbers o w.0 q).three.1 (n, inl w.1)))
could_made (Err NoRoom) o f =
    let w = crowding o.kind f in
    refused_made o w.op w.ret NoRoom
    (number_tells _ NoRoom ((step_numbers o w.op w.ret).seven.1 (full_shaped o.kind f, λ z. ⊎_elim (λ x. x w.own) (λ x. x w.own_ret) z, (f, w.wants, w.took))))
could_made (Err StartTooDeep) o c = absurd c
could_made (Err OutOfShape) o d = subst Made (begun_deep o d) (begun o)

-- The records that calls made are exactly those that they could have made.
pub made_exactly : (x : Stepped) → Made x ↔ Could x
made_exactly x = (λ m. made_could m, λ c. could_made x.said x.object c)

pub made_or_not : (x : Stepped) → Made x ⊎ (¬ Made x)
made_or_not x = go (could_or_not x.object.kind x.said)
  where
    go : Could x ⊎ (¬ Could x) → Made x ⊎ (¬ Made x)
    go (inl c) = inl ((made_exactly x).1 c)
    go (inr n) = inr (λ m. n (made_could m))

moved : {x y : Stepped} (n : ℕ) → x ≡ y → said_number x.said ≡ n → said_number y.said ≡ n
moved n q e = subst (λ (w : Stepped). said_number w.said ≡ n) q e

module _ (x : Stepped) (op : Op) (ret : Ret) where
  -- A record that calls made goes on with the step where it says yes,
  pub then_steps : Made x → x.said ≡ Ok true → then_of x op ret ≡ step_of x.object op ret
  then_steps m e = go x.said x.object (made_could m) e
    where
      go : (s : Result Bool Refusal) (o : Object) → CouldSay o.kind s → s ≡ Ok true → then_of (stepped s o) op ret ≡ step_of o op ret
      go (Ok true) o c e = could_then op ret (Ok true) o c
      go (Ok false) o c e = absurd cc
      go (Err r) o c e = absurd cc

  -- else it stays as it is;
  pub then_stays : Made x → x.said ≢ Ok true → then_of x op ret ≡ x
  then_stays m n = go x.said x.object (made_could m) n
    where
      go : (s : Result Bool Refusal) (o : Object) → CouldSay o.kind s → s ≢ Ok true → then_of (stepped s o) op ret ≡ stepped s o
      go (Ok true) o c n = absurd (n refl)
      go (Ok false) o c n = could_then op ret (Ok false) o c
      go (Err r) o c n = could_then op ret (Err r) o c

  -- and one that they did not make gets 9, with its object as it came.
  pub then_made_up : ¬ Made x → then_of x op ret ≡ stepped (Err OutOfShape) x.object
  then_made_up n = could_not_then op ret x.said x.object (λ c. n ((made_exactly x).1 c))

  -- So it gives 9 exactly to a record that calls did not make, or of an object too deep,
  pub then_nine : said_number (then_of x op ret).said ≡ 9 ↔ (¬ Made x) ⊎ TooDeep x.object.kind
  unfolding number_of
  then_nine = (λ e. forth (made_or_not x) e, λ w. back (made_or_not x) w)
    where
      deep : (s : Result Bool Refusal) (o : Object) → CouldSay o.kind s → said_number (then_of (stepped s o) op ret).said ≡ 9 → TooDeep o.kind
      deep (Ok true) o c e = (step_numbers o op ret).nine.0 (moved 9 (could_then op ret (Ok true) o c) e)
      deep (Ok false) o c e = absurd (omega (arith, moved 9 (could_then op ret (Ok false) o c) e))
      deep (Err r) o c e = subst (CouldSay o.kind) (number_tells (Err r) OutOfShape (moved 9 (could_then op ret (Err r) o c) e)) c

      forth : Made x ⊎ (¬ Made x) → said_number (then_of x op ret).said ≡ 9 → (¬ Made x) ⊎ TooDeep x.object.kind
      forth (inl m) e = inr (deep x.said x.object (made_could m) e)
      forth (inr n) e = inl n

      made_up : ¬ Made x → said_number (then_of x op ret).said ≡ 9
      made_up n = ap (λ (y : Stepped). said_number y.said) (then_made_up n)

      said : (s : Result Bool Refusal) (o : Object) → CouldSay o.kind s → TooDeep o.kind → said_number (then_of (stepped s o) op ret).said ≡ 9
      said (Ok true) o c d = absurd (c d)
      said (Ok false) o c d = absurd (c d)
      said (Err OtherFamily) o c d = absurd (c d)
      said (Err NoRoom) o f d = absurd (full_shaped o.kind f d)
      said (Err StartTooDeep) o c d = absurd c
      said (Err OutOfShape) o c d = ap (λ (y : Stepped). said_number y.said) (could_then op ret (Err OutOfShape) o c)

      back : Made x ⊎ (¬ Made x) → (¬ Made x) ⊎ TooDeep x.object.kind → said_number (then_of x op ret).said ≡ 9
      back (inr n) w = made_up n
      back (inl m) (inl n) = made_up n
      back (inl m) (inr d) = said x.said x.object (made_could m) d

  -- and 7 to none but of a full stack.
  pub then_seven : said_number (then_of x op ret).said ≡ 7 → Full x.object.kind
  unfolding number_of
  then_seven e = go (made_or_not x)
    where
      said : (s : Result Bool Refusal) (o : Object) → CouldSay o.kind s → said_number (then_of (stepped s o) op ret).said ≡ 7 → Full o.kind
      said (Ok true) o c e = ((step_numbers o op ret).seven.0 (moved 7 (could_then op ret (Ok true) o c) e)).2.0
      said (Ok false) o c e = absurd (omega (arith, moved 7 (could_then op ret (Ok false) o c) e))
      said (Err r) o c e = subst (CouldSay o.kind) (number_tells (Err r) NoRoom (moved 7 (could_then op ret (Err r) o c) e)) c

      go : Made x ⊎ (¬ Made x) → Full x.object.kind
      go (inl m) = said x.said x.object (made_could m) e
      go (inr n) = absurd (omega (arith, moved 7 (then_made_up n) e))
