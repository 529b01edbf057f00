-- A sequential history: its steps are taken in order up to the first no or refusal, and the object reached there is kept.
use Rattle.std.specs.Prelude.{◌≡◌, refl, ◌≢◌, List, [], ◌∷◌, Bool, true, false, Result, Ok, Err}
use Rattle.std.proofs.Common.{ap, ◌∙◌, inl, inr}
use Rattle.families.specs.Refusals.{shape_check}
use Rattle.families.specs.BareRefusals.{TooDeep, Refuses, deep_refused}
use Rattle.semantics.specs.Calls.{stepped, step_of, begun_of, then_of}
use Rattle.semantics.specs.Made.{Made, begun, step, then_steps, then_stays}
use Rattle.semantics.specs.Then.{begun_deep, begun_shaped}
use Rattle.families.specs.declared.Object.{Object}
use Rattle.families.specs.declared.Op.{Op}
use Rattle.families.specs.declared.Ret.{Ret}
use Rattle.values.specs.declared.refusal.Refusal.TheVariants.{OutOfShape}
use Rattle.semantics.specs.declared.Stepped.{Stepped}
use Rattle.values.specs.declared.refusal.Refusal.{Refusal}

pub record Turn : Type 0 where
  pub op : Op
  pub ret : Ret

-- the first no or refusal stays; after a yes the history goes on from the object that the step left
abbrev pub onward : Result Bool Refusal → Stepped → (Object → Stepped) → Stepped
onward (Ok true) x go = go x.object
onward (Ok false) x go = x
onward (Err r) x go = x

unfoldable pub taken : List Turn → Object → Stepped
taken [] o = stepped (Ok true) o
taken (t ∷ ts) o = let x = step_of o t.op t.ret in onward x.said x (taken ts)

-- an object out of shape is refused even where there are no steps
abbrev pub history_by : Result Unit Refusal → Object → List Turn → Stepped
history_by (Err r) o ts = stepped (Err r) o
history_by (Ok tt) o ts = taken ts o

unfoldable pub history_of : Object → List Turn → Stepped
history_of o ts = history_by (shape_check o.kind) o ts

-- `is_valid_history`, and then one `then` for each step
unfoldable pub walked : Stepped → List Turn → Stepped
walked x [] = x
walked x (t ∷ ts) = walked (then_of x t.op t.ret) ts

-- a no or a refusal of a record that calls made stays
stays : (x : Stepped) → Made x → x.said ≢ Ok true → (ts : List Turn) → walked x ts ≡ x
unfolding walked
stays x m n [] = refl
stays x m n (t ∷ ts) = rw (then_stays x t.op t.ret m n) (stays x m n ts)

walked_on : (x : Stepped) → Made x → (ts : List Turn) → (x.said ≡ Ok true → walked x ts ≡ taken ts x.object) → walked x ts ≡ onward x.said x (taken ts)
walked_on x m ts f = go x.said refl
  where
    go : (s : Result Bool Refusal) → x.said ≡ s → walked x ts ≡ onward s x (taken ts)
    go (Ok true) e = f e
    go (Ok false) e = stays x m (λ y. cc) ts
    go (Err r) e = stays x m (λ y. cc) ts

walked_taken : (ts : List Turn) (x : Stepped) → Made x → x.said ≡ Ok true → walked x ts ≡ taken ts x.object
unfolding walked taken
walked_taken [] x m e = ap (λ (s : Result Bool Refusal). stepped s x.object) e
walked_taken (t ∷ ts) x m e =
    let y = step_of x.object t.op t.ret in
    let n = step x.object t.op t.ret in
    rw (then_steps x t.op t.ret m e) (walked_on y n ts (walked_taken ts y n))

-- step by step the calls come to what the history says, for any number of steps
pub history_walked : (o : Object) (ts : List Turn) → walked (begun_of o) ts ≡ history_of o ts
unfolding history_of
history_walked o ts = go (deep_refused o.kind)
  where
    go : Refuses OutOfShape (TooDeep o.kind) (shape_check o.kind) → walked (begun_of o) ts ≡ history_of o ts
    go (inl x) =
        let b = begun_deep o x.1 in
        rw x.0 (stays (begun_of o) (begun o) (λ y. cc) ts ∙ b)
    go (inr x) =
        let b = begun_shaped o x.1 in
        rw x.0 (walked_taken ts (begun_of o) (begun o) (ap (λ (y : Stepped). y.said) b) ∙ ap (λ (y : Stepped). taken ts y.object) b)
