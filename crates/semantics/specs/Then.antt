-- What calls can say of an object, and what `then` makes of a record: one that says such a thing goes on or stays, any other gets 9.
use Rattle.std.specs.Prelude.{◌≡◌, refl, Bool, true, false, ◌⊎◌, Result, Ok, Err}
use Rattle.std.proofs.Common.{sym, ap, subst, inl, inr}
use Rattle.values.specs.Checks.{number_of, in_order}
use Rattle.families.specs.Refusals.{shape_check, is_full}
use Rattle.families.specs.BareRefusals.{TooDeep, Full, Refuses, deep_refused, in_shape_exactly, full_exactly}
use Rattle.families.specs.Drawn.{full_shaped}
use Rattle.families.specs.declared.Kind.{Kind}
use Rattle.families.specs.declared.Object.{Object}
use Rattle.families.specs.declared.Op.{Op}
use Rattle.families.specs.declared.Ret.{Ret}
use Rattle.values.specs.declared.refusal.Refusal.{Refusal}
use Rattle.values.specs.declared.refusal.Refusal.TheVariants.{OtherFamily, NoRoom, StartTooDeep, OutOfShape}
use Rattle.semantics.specs.Calls.{stepped, step_of, begun_of, drawn_check, said_check, onward_by, then_of}
use Rattle.semantics.specs.Numbers.{said_number}
use Rattle.semantics.specs.NumbersExactly.{not_eight, step_numbers}
use Rattle.semantics.specs.Steps.{step_refused_keeps}
use Rattle.semantics.specs.Shapes.{step_shaped}
use Rattle.semantics.specs.declared.Stepped.{Stepped}

-- A record says of its object what calls can come to: a yes, a no and 3 of one that is not too deep, 7 of a full stack, 9 of one too deep.
abbrev pub CouldSay : Kind → Result Bool Refusal → Type 0
CouldSay k (Ok b) = ¬ TooDeep k
CouldSay k (Err OtherFamily) = ¬ TooDeep k
CouldSay k (Err NoRoom) = Full k
CouldSay k (Err StartTooDeep) = ⊥
CouldSay k (Err OutOfShape) = TooDeep k

abbrev pub Could : Stepped → Type 0
Could x = CouldSay x.object.kind x.said

-- what `is_valid_history` and a step hand back

pub deep_shape : (k : Kind) → TooDeep k → shape_check k ≡ Err OutOfShape
deep_shape k d = go (deep_refused k)
  where
    go : Refuses OutOfShape (TooDeep k) (shape_check k) → shape_check k ≡ Err OutOfShape
    go (inl x) = x.0
    go (inr x) = absurd (x.1 d)

pub begun_deep : (o : Object) → TooDeep o.kind → begun_of o ≡ stepped (Err OutOfShape) o
unfolding begun_of
begun_deep o d = rw (deep_shape o.kind d)

pub begun_shaped : (o : Object) → ¬ TooDeep o.kind → begun_of o ≡ stepped (Ok true) o
unfolding begun_of
begun_shaped o n = rw ((in_shape_exactly o.kind).1 n)

pub could_begin : (o : Object) → Could (begun_of o)
could_begin o = go (deep_refused o.kind)
  where
    go : Refuses OutOfShape (TooDeep o.kind) (shape_check o.kind) → Could (begun_of o)
    go (inl x) = subst Could (sym (begun_deep o x.1)) x.1
    go (inr x) = subst Could (sym (begun_shaped o x.1)) x.1

pub could_step : (o : Object) (op : Op) (ret : Ret) → Could (step_of o op ret)
unfolding number_of
could_step o op ret = go (step_of o op ret).said refl
  where
    drawn : (r : Refusal) → (step_of o op ret).said ≡ Err r → CouldSay o.kind (Err r)
    drawn OtherFamily e = ((step_numbers o op ret).three.0 (ap said_number e)).0
    drawn NoRoom e = ((step_numbers o op ret).seven.0 (ap said_number e)).2.0
    drawn StartTooDeep e = not_eight (step_numbers o op ret) (ap said_number e)
    drawn OutOfShape e = (step_numbers o op ret).nine.0 (ap said_number e)

    kept : said_number (step_of o op ret).said ≡ 0 → ¬ TooDeep (step_of o op ret).object.kind
    kept e = step_shaped o op ret ((step_numbers o op ret).none.0 e).0

    go : (s : Result Bool Refusal) → (step_of o op ret).said ≡ s → CouldSay (step_of o op ret).object.kind s
    go (Ok true) e = kept (ap said_number e)
    go (Ok false) e = kept (ap said_number e)
    go (Err r) e = subst (λ (p : Object). CouldSay p.kind (Err r)) (sym (step_refused_keeps o op ret r e)) (drawn r e)

-- `then` of a record

full_or_not : (k : Kind) → Full k ⊎ ((is_full k ≡ false) × (¬ Full k))
full_or_not k = go (is_full k) refl
  where
    go : (b : Bool) → is_full k ≡ b → Full k ⊎ ((is_full k ≡ false) × (¬ Full k))
    go true e = inl ((full_exactly k).0 e)
    go false e = inr (e, λ f. let t : is_full k ≡ true = (full_exactly k).1 f in cc)

pub could_or_not : (k : Kind) (s : Result Bool Refusal) → CouldSay k s ⊎ (¬ CouldSay k s)
could_or_not k s = go s (deep_refused k)
  where
    deep : Refuses OutOfShape (TooDeep k) (shape_check k) → TooDeep k ⊎ (¬ TooDeep k)
    deep (inl x) = inl x.1
    deep (inr x) = inr x.1

    shaped : Refuses OutOfShape (TooDeep k) (shape_check k) → (¬ TooDeep k) ⊎ (¬ (¬ TooDeep k))
    shaped (inl x) = inr (λ n. n x.1)
    shaped (inr x) = inl x.1

    crowd : Full k ⊎ ((is_full k ≡ false) × (¬ Full k)) → Full k ⊎ (¬ Full k)
    crowd (inl f) = inl f
    crowd (inr f) = inr f.1

    go : (s : Result Bool Refusal) → Refuses OutOfShape (TooDeep k) (shape_check k) → CouldSay k s ⊎ (¬ CouldSay k s)
    go (Ok true) x = shaped x
    go (Ok false) x = shaped x
    go (Err OtherFamily) x = shaped x
    go (Err NoRoom) x = crowd (full_or_not k)
    go (Err StartTooDeep) x = inr (λ c. c)
    go (Err OutOfShape) x = deep x

module _ (op : Op) (ret : Ret) where
  pub could_then : (s : Result Bool Refusal) (o : Object) → CouldSay o.kind s → then_of (stepped s o) op ret ≡ onward_by s (stepped s o) op ret
  unfolding then_of said_check drawn_check in_order
  could_then (Ok true) o c = rw ((in_shape_exactly o.kind).1 c)
  could_then (Ok false) o c = rw ((in_shape_exactly o.kind).1 c)
  could_then (Err OtherFamily) o c = rw ((in_shape_exactly o.kind).1 c)
  could_then (Err NoRoom) o f = rw ((in_shape_exactly o.kind).1 (full_shaped o.kind f), (full_exactly o.kind).1 f)
  could_then (Err StartTooDeep) o c = absurd c
  could_then (Err OutOfShape) o d = rw (deep_shape o.kind d)

  pub could_not_then : (s : Result Bool Refusal) (o : Object) → ¬ CouldSay o.kind s → then_of (stepped s o) op ret ≡ stepped (Err OutOfShape) o
  unfolding then_of said_check drawn_check in_order
  could_not_then s o n = go s n (deep_refused o.kind)
    where
      go : (s : Result Bool Refusal) → ¬ CouldSay o.kind s → Refuses OutOfShape (TooDeep o.kind) (shape_check o.kind)
          → then_of (stepped s o) op ret ≡ stepped (Err OutOfShape) o
      go (Ok true) n (inl x) = rw x.0
      go (Ok true) n (inr x) = absurd (n x.1)
      go (Ok false) n (inl x) = rw x.0
      go (Ok false) n (inr x) = absurd (n x.1)
      go (Err r) n (inl x) = rw x.0
      go (Err OtherFamily) n (inr x) = absurd (n x.1)
      go (Err NoRoom) n (inr x) = crowd (full_or_not o.kind)
        where
          crowd : Full o.kind ⊎ ((is_full o.kind ≡ false) × (¬ Full o.kind)) → then_of (stepped (Err NoRoom) o) op ret ≡ stepped (Err OutOfShape) o
          crowd (inl f) = absurd (n f)
          crowd (inr f) = rw (x.0, f.0)
      go (Err StartTooDeep) n (inr x) = rw x.0
      go (Err OutOfShape) n (inr x) = rw x.0
