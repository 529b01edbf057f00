-- A history gives 9, 3 and 7 exactly when document 01 says: 9 for an object too deep, even where there are no steps, 3 and 7 where it comes to a
-- step that gives them. What it leaves of an object that is not too deep is not too deep.
use Rattle.std.specs.Prelude.{ℕ, ◌≡◌, refl, ◌↔◌, List, [], ◌∷◌, Bool, true, false, Result, Ok, Err}
use Rattle.std.proofs.Common.{ap, inl, inr, ⊎_elim}
use Rattle.values.specs.Checks.{number_of}
use Rattle.families.specs.Refusals.{shape_check}
use Rattle.families.specs.BareRefusals.{TooDeep, OtherStep, CrowdedStep, Refuses, deep_refused}
use Rattle.families.specs.declared.Object.{Object}
use Rattle.values.specs.declared.refusal.Refusal.TheVariants.{OutOfShape}
use Rattle.semantics.specs.Numbers.{said_number, Numbered}
use Rattle.semantics.specs.NumbersExactly.{at_nine, at_none, step_numbers}
use Rattle.semantics.specs.Shapes.{step_shaped}
use Rattle.semantics.specs.Histories.{Turn, onward, taken, history_of}
use Rattle.semantics.specs.HistoriesExactly.{step_at, ComesTo, comes_now, comes_later, comes_first, comes_nowhere}
use Rattle.values.specs.declared.refusal.Refusal.{Refusal}

-- A turn that draws 3, and one that draws 7.

abbrev pub OtherAt : Object → Turn → Type 0
OtherAt x t = OtherStep x.kind t.op t.ret

abbrev pub CrowdedAt : Object → Turn → Type 0
CrowdedAt x t = CrowdedStep x.kind t.op t.ret

-- the same number under the same conditions
module _ (D E F G R S : Type 0) (d : D ↔ E) (f : F ↔ G) (r : R ↔ S) where
  renamed : (n : ℕ) → Numbered n D F R → Numbered n E G S
  renamed n w = record {
    nine = (λ e. d.0 (w.nine.0 e), λ x. w.nine.1 (d.1 x));
    three = (λ e. let y = w.three.0 e in (λ x. y.0 (d.1 x), f.0 y.1), λ y. w.three.1 (λ x. y.0 (d.0 x), f.1 y.1));
    seven = (
      λ e. let y = w.seven.0 e in (λ x. y.0 (d.1 x), λ x. y.1 (f.1 x), r.0 y.2),
      λ y. w.seven.1 (λ x. y.0 (d.0 x), λ x. y.1 (f.0 x), r.1 y.2),
    );
    none = (
      λ e. let y = w.none.0 e in (λ x. y.0 (d.1 x), λ x. y.1 (f.1 x), λ x. y.2 (r.1 x)),
      λ y. w.none.1 (λ x. y.0 (d.0 x), λ x. y.1 (f.0 x), λ x. y.2 (r.0 x)),
    );
    only = w.only;
  }

-- a step that is no yes is where the history comes to, and after a yes it is where the rest comes to

module _ (P : Object → Turn → Type 0) (o : Object) (t : Turn) (ts : List Turn) where
  here : ((step_at o t).said ≡ Ok true → ⊥) → P o t ↔ ComesTo P o (t ∷ ts)
  here n = (comes_now P o t ts, λ c. ⊎_elim (λ p. p) (λ y. absurd (n y.0)) (comes_first P o t ts c))

  further : (step_at o t).said ≡ Ok true → ¬ P o t → ComesTo P (step_at o t).object ts ↔ ComesTo P o (t ∷ ts)
  further y n = (comes_later P o t ts y, λ c. ⊎_elim (λ p. absurd (n p)) (λ z. z.1) (comes_first P o t ts c))

abbrev Counted : Object → List Turn → ℕ → Type 0
Counted o ts n = Numbered n (TooDeep o.kind) (ComesTo OtherAt o ts) (ComesTo CrowdedAt o ts)

taken_numbers : (ts : List Turn) (o : Object) → ¬ TooDeep o.kind → Counted o ts (said_number (taken ts o).said)
unfolding taken
taken_numbers [] o n = at_none (TooDeep o.kind) (ComesTo OtherAt o []) (ComesTo CrowdedAt o []) n (comes_nowhere OtherAt o) (comes_nowhere CrowdedAt o)
taken_numbers (t ∷ ts) o n = go (step_at o t).said refl (taken_numbers ts (step_at o t).object shaped)
  where
    shaped : ¬ TooDeep (step_at o t).object.kind
    shaped = step_shaped o t.op t.ret n

    stops : ((step_at o t).said ≡ Ok true → ⊥) → Counted o (t ∷ ts) (said_number (step_at o t).said)
    stops y =
        renamed (TooDeep o.kind) (TooDeep o.kind) (OtherAt o t) (ComesTo OtherAt o (t ∷ ts)) (CrowdedAt o t) (ComesTo CrowdedAt o (t ∷ ts))
        (λ x. x, λ x. x) (here OtherAt o t ts y) (here CrowdedAt o t ts y)
        (said_number (step_at o t).said) (step_numbers o t.op t.ret)

    go : (s : Result Bool Refusal) → (step_at o t).said ≡ s → Counted (step_at o t).object ts (said_number (taken ts (step_at o t).object).said)
        → Counted o (t ∷ ts) (said_number (onward s (step_at o t) (taken ts)).said)
    go (Ok true) e w =
        let y = (step_numbers o t.op t.ret).none.0 (ap said_number e) in
        renamed (TooDeep (step_at o t).object.kind) (TooDeep o.kind) (ComesTo OtherAt (step_at o t).object ts) (ComesTo OtherAt o (t ∷ ts))
        (ComesTo CrowdedAt (step_at o t).object ts) (ComesTo CrowdedAt o (t ∷ ts))
        (λ x. absurd (shaped x), λ x. absurd (n x)) (further OtherAt o t ts e y.1) (further CrowdedAt o t ts e y.2)
        (said_number (taken ts (step_at o t).object).said) w
    go (Ok false) e w = stops (λ y. cc)
    go (Err r) e w = stops (λ y. cc)

pub history_numbers : (o : Object) (ts : List Turn)
    → Numbered (said_number (history_of o ts).said) (TooDeep o.kind) (ComesTo OtherAt o ts) (ComesTo CrowdedAt o ts)
unfolding history_of number_of
history_numbers o ts = go (deep_refused o.kind)
  where
    go : Refuses OutOfShape (TooDeep o.kind) (shape_check o.kind) → Counted o ts (said_number (history_of o ts).said)
    go (inl x) = rw x.0 (at_nine (TooDeep o.kind) (ComesTo OtherAt o ts) (ComesTo CrowdedAt o ts) x.1)
    go (inr x) = rw x.0 (taken_numbers ts o x.1)

taken_shaped : (ts : List Turn) (o : Object) → ¬ TooDeep o.kind → ¬ TooDeep (taken ts o).object.kind
unfolding taken
taken_shaped [] o n = n
taken_shaped (t ∷ ts) o n =
    let shaped = step_shaped o t.op t.ret n in
    go (step_at o t).said shaped (taken_shaped ts (step_at o t).object shaped)
  where
    go : (s : Result Bool Refusal) → ¬ TooDeep (step_at o t).object.kind → ¬ TooDeep (taken ts (step_at o t).object).object.kind
        → ¬ TooDeep (onward s (step_at o t) (taken ts)).object.kind
    go (Ok true) shaped rest = rest
    go (Ok false) shaped rest = shaped
    go (Err r) shaped rest = shaped

pub history_shaped : (o : Object) (ts : List Turn) → ¬ TooDeep o.kind → ¬ TooDeep (history_of o ts).object.kind
unfolding history_of
history_shaped o ts n = go (deep_refused o.kind)
  where
    go : Refuses OutOfShape (TooDeep o.kind) (shape_check o.kind) → ¬ TooDeep (history_of o ts).object.kind
    go (inl x) = absurd (n x.1)
    go (inr x) = rw x.0 (taken_shaped ts o n)
