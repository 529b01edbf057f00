-- A history stops at the first no or refusal and gives its number, 9 even where there are no steps, and keeps the object reached there.
use Rattle.std.specs.Prelude.{◌≡◌, refl, ◌≢◌, ◌⊎◌, Bool, true, false, Result, Ok, Err}
use Rattle.std.proofs.Common.{sym, ap₂, ◌∙◌}
use Rattle.std.proofs.Math.Path.{ap, subst}
use Rattle.std.proofs.Math.Logic.{inl, inr}
use mathlib.Core.List.{List, [], ◌∷◌, ◌++◌}
use Rattle.families.specs.BareRefusals.{TooDeep, in_shape_exactly}
use Rattle.families.specs.declared.Object.{Object}
use Rattle.values.specs.declared.refusal.Refusal.{Refusal}
use Rattle.values.specs.declared.refusal.Refusal.TheVariants.{OutOfShape}
use Rattle.semantics.specs.Calls.{stepped, step_of}
use Rattle.semantics.specs.Steps.{step_refused_keeps}
use Rattle.semantics.specs.Then.{deep_shape}
use Rattle.semantics.specs.Histories.{Turn, onward, taken, history_of}
use Rattle.semantics.specs.declared.Stepped.{Stepped}

-- The step of a turn.
abbrev pub step_at : Object → Turn → Stepped
step_at o t = step_of o t.op t.ret

-- Every step is a yes, and they lead from o to x.
unfoldable pub AllYes : Object → List Turn → Object → Type 0
AllYes o [] x = o ≡ x
AllYes o (t ∷ ts) x = ((step_at o t).said ≡ Ok true) × AllYes (step_at o t).object ts x

-- A history comes, by steps that are all a yes, to an object and a turn of which P holds.
pub record ComesTo (P : Object → Turn → Type 0) (o : Object) (ts : List Turn) : Type 0 where
  pub before : List Turn
  pub turn : Turn
  pub behind : List Turn
  pub reached : Object
  pub split : ts ≡ before ++ turn ∷ behind
  pub all_yes : AllYes o before reached
  pub holds : P reached turn

module _ (P : Object → Turn → Type 0) where
  pub comes_now : (o : Object) (t : Turn) (ts : List Turn) → P o t → ComesTo P o (t ∷ ts)
  unfolding AllYes
  comes_now o t ts p = record { before = []; turn = t; behind = ts; reached = o; split = refl; all_yes = refl; holds = p }

  pub comes_later : (o : Object) (t : Turn) (ts : List Turn) → (step_at o t).said ≡ Ok true → ComesTo P (step_at o t).object ts → ComesTo P o (t ∷ ts)
  unfolding AllYes
  comes_later o t ts y c = record {
    before = t ∷ c.before;
    turn = c.turn;
    behind = c.behind;
    reached = c.reached;
    split = ap (λ (us : List Turn). t ∷ us) c.split;
    all_yes = (y, c.all_yes);
    holds = c.holds;
  }

  pub comes_first : (o : Object) (t : Turn) (ts : List Turn) → ComesTo P o (t ∷ ts) → P o t ⊎ (((step_at o t).said ≡ Ok true) × ComesTo P (step_at o t).object ts)
  unfolding AllYes
  comes_first o t ts c = go c.before c.split c.all_yes
    where
      go : (b : List Turn) → t ∷ ts ≡ b ++ c.turn ∷ c.behind → AllYes o b c.reached
          → P o t ⊎ (((step_at o t).said ≡ Ok true) × ComesTo P (step_at o t).object ts)
      go [] e y =
          let q : c.turn ≡ t = cc in
          inl (subst (λ (u : Turn). P o u) q (subst (λ (x : Object). P x c.turn) (sym y) c.holds))
      go (u ∷ us) e y =
          let q : u ≡ t = cc in
          let r : ts ≡ us ++ c.turn ∷ c.behind = cc in
          let w : AllYes o (t ∷ us) c.reached = subst (λ (v : Turn). AllYes o (v ∷ us) c.reached) q y in
          inr (w.0, record { before = us; turn = c.turn; behind = c.behind; reached = c.reached; split = r; all_yes = w.1; holds = c.holds })

  pub comes_nowhere : (o : Object) → ¬ ComesTo P o []
  comes_nowhere o c = go c.before c.split
    where
      go : (b : List Turn) → ◌≡◌ {A = List Turn} [] (b ++ c.turn ∷ c.behind) → ⊥
      go [] e = cc
      go (u ∷ us) e = cc

-- how a history ends

onward_stops : (x : Stepped) (go : Object → Stepped) → x.said ≢ Ok true → onward x.said x go ≡ x
onward_stops x go n = by x.said refl
  where
    by : (s : Result Bool Refusal) → x.said ≡ s → onward s x go ≡ x
    by (Ok true) e = absurd (n e)
    by (Ok false) e = refl
    by (Err r) e = refl

taken_stops : (before : List Turn) (o : Object) (t : Turn) (behind : List Turn) (x : Object) → AllYes o before x → (step_at x t).said ≢ Ok true
    → taken (before ++ t ∷ behind) o ≡ step_at x t
unfolding taken AllYes
taken_stops [] o t behind x y n =
    subst (λ (p : Object). taken (t ∷ behind) p ≡ step_at x t) (sym y) (onward_stops (step_at x t) (taken behind) n)
taken_stops (u ∷ us) o t behind x y n = rw y.0 (taken_stops us (step_at o u).object t behind x y.1 n)

taken_ends : (ts : List Turn) (o x : Object) → AllYes o ts x → taken ts o ≡ stepped (Ok true) x
unfolding taken AllYes
taken_ends [] o x y = ap (stepped (Ok true)) y
taken_ends (t ∷ ts) o x y = rw y.0 (taken_ends ts (step_at o t).object x y.1)

-- a step that is no yes
abbrev pub Halts : Object → Turn → Type 0
Halts x t = (step_at x t).said ≢ Ok true

module _ (o : Object) (ts : List Turn) where
  -- An object too deep is refused, whatever the steps.
  pub history_deep : TooDeep o.kind → history_of o ts ≡ stepped (Err OutOfShape) o
  unfolding history_of
  history_deep d = rw (deep_shape o.kind d)

  -- Any other history stops at the first step that is no yes, with what that step comes to;
  pub history_stops : ¬ TooDeep o.kind → (c : ComesTo Halts o ts) → history_of o ts ≡ step_at c.reached c.turn
  unfolding history_of
  history_stops n c = rw ((in_shape_exactly o.kind).1 n, c.split) (taken_stops c.before o c.turn c.behind c.reached c.all_yes c.holds)

  -- where there is none it says yes, of the object that the steps lead to.
  pub history_ends : ¬ TooDeep o.kind → (x : Object) → AllYes o ts x → history_of o ts ≡ stepped (Ok true) x
  unfolding history_of
  history_ends n x y = rw ((in_shape_exactly o.kind).1 n) (taken_ends ts o x y)

  -- A refusal keeps the object that it came to.
  pub history_refused_keeps : (r : Refusal) → ¬ TooDeep o.kind → (c : ComesTo (λ x t. (step_at x t).said ≡ Err r) o ts)
      → history_of o ts ≡ stepped (Err r) c.reached
  history_refused_keeps r n c =
      let h = c.holds in
      history_stops n
      (record {
        before = c.before;
        turn = c.turn;
        behind = c.behind;
        reached = c.reached;
        split = c.split;
        all_yes = c.all_yes;
        holds = λ y. cc;
      })
      ∙ ap₂ stepped h (step_refused_keeps c.reached c.turn.op c.turn.ret r h)

-- every history comes to a step that is no yes, or all its steps are
pub halts_or_ends : (ts : List Turn) (o : Object) → ComesTo Halts o ts ⊎ ((x : Object) × AllYes o ts x)
unfolding AllYes
halts_or_ends [] o = inr (o, refl)
halts_or_ends (t ∷ ts) o = go (step_at o t).said refl (halts_or_ends ts (step_at o t).object)
  where
    stops : Halts o t → ComesTo Halts o (t ∷ ts) ⊎ ((x : Object) × AllYes o (t ∷ ts) x)
    stops n = inl (comes_now Halts o t ts n)

    go : (s : Result Bool Refusal) → (step_at o t).said ≡ s → ComesTo Halts (step_at o t).object ts ⊎ ((x : Object) × AllYes (step_at o t).object ts x)
        → ComesTo Halts o (t ∷ ts) ⊎ ((x : Object) × AllYes o (t ∷ ts) x)
    go (Ok true) e (inl c) = inl (comes_later Halts o t ts e c)
    go (Ok true) e (inr y) = inr (y.0, (e, y.1))
    go (Ok false) e later = stops (λ y. cc)
    go (Err r) e later = stops (λ y. cc)
