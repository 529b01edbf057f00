-- What is held after an event, and where a thread's operation in flight stands.
use Rattle.std.specs.Prelude.{ℕ, suc, ◌+◌, ◌<◌, ◌≡◌, refl, Bool, true, false, ◌||◌, List, [], ◌∷◌, ◌++◌, length, get_or, set, take, eqb, Option, Some, None}
use Rattle.std.proofs.Common.{sym, ap, ◌∙◌, subst, length-append, length-take, take-suc-set, get_or-take, eqb-true, eq-eqb, add-one, arith}
use Rattle.std.proofs.Math.Bool.{or-true}
use Rattle.std.proofs.Math.Seq.{take-set-lt}
use Rattle.std.proofs.lemmas.List.{set_at, get_or_at}
use Rattle.history.specs.Lists.{not_both}
use Rattle.values.specs.Value.{pick}
use Rattle.values.specs.Sizes.{capacity}
use Rattle.families.specs.declared.Op.{Op}
use Rattle.families.specs.declared.Ret.{Ret}
use Rattle.stepping.specs.declared.histories.Operation.{Operation}
use Rattle.stepping.specs.declared.histories.History.{History}
use Rattle.stepping.specs.Record.{operation, blank_operation, held, operation_at, is_pending, flying_by, flying_from, find_flying, extended, completed}
use Rattle.recording_meaning.specs.Reading.{Sized}

-- one more
pub held_extended : (h : History) (t : ℕ) (op : Op) → Sized h → h.count < capacity → held (extended h t op) ≡ held h ++ (operation t op None ∷ [])
held_extended h t op z l = rw add-one (take-suc-set h.ops h.count (operation t op None) (omega arith))

-- an operation of thread t in flight

pending_is : (o : Option Ret) → is_pending o ≡ true → o ≡ None
unfolding is_pending
pending_is None e = refl
pending_is (Some r) e = cc

flying_is : (t : ℕ) (o : Operation) → flying_by t o ≡ true → (o.thread ≡ t) × (o.outcome ≡ None)
unfolding flying_by
flying_is t o e = go (eqb o.thread t) refl e
  where
    go : (b : Bool) → eqb o.thread t ≡ b → pick b (is_pending o.outcome) false ≡ true → (o.thread ≡ t) × (o.outcome ≡ None)
    go true z e = (eqb-true o.thread t z, pending_is o.outcome e)
    go false z e = absurd (let y : ◌≡◌ {A = ℕ} 0 1 = cc in omega arith)

-- some operation of thread t is in flight
unfoldable pub flies : ℕ → List Operation → Bool
flies t [] = false
flies t (o ∷ os) = flying_by t o || flies t os

-- The first operation of thread t in flight stands at place i.
pub record Found (t : ℕ) (os : List Operation) (i : ℕ) : Type 0 where
  pub before : List Operation
  pub one : Operation
  pub after : List Operation
  pub split : os ≡ before ++ (one ∷ after)
  pub place : length before ≡ i
  pub own : one.thread ≡ t
  pub in_flight : one.outcome ≡ None
  pub first : flies t before ≡ false

-- what the search says: a place, counted from i, or that there is none
abbrev Finds : ℕ → ℕ → List Operation → Option ℕ → Type 0
Finds t i os (Some j) = (k : ℕ) × (j ≡ i + k) × Found t os k
Finds t i os None = flies t os ≡ false

finds : (t i : ℕ) (os : List Operation) → Finds t i os (flying_from t i os)
unfolding flying_from flies
finds t i [] = refl
finds t i (o ∷ os) = go (flying_by t o) refl (flying_from t (i + 1) os) (finds t (i + 1) os)
  where
    go : (b : Bool) → flying_by t o ≡ b → (f : Option ℕ) → Finds t (i + 1) os f → Finds t i (o ∷ os) (pick b (Some i) f)
    go true e f w =
        let z = flying_is t o e in
        (0, omega arith, record { before = []; one = o; after = os; split = refl; place = refl; own = z.0; in_flight = z.1; first = refl })
    go false e (Some j) w =
        let k = w.2 in (
          suc w.0,
          omega arith,
          record {
            before = o ∷ k.before;
            one = k.one;
            after = k.after;
            split = ap (λ (l : List Operation). o ∷ l) k.split;
            place = ap suc k.place;
            own = k.own;
            in_flight = k.in_flight;
            first = rw e k.first;
          },
        )
    go false e None w = rw e w

-- what the thread's place says

pub found_at : (t : ℕ) (h : History) (i : ℕ) → find_flying t h ≡ Some i → Found t (held h) i
unfolding find_flying
found_at t h i e = let w = subst (Finds t 0 (held h)) e (finds t 0 (held h)) in subst (Found t (held h)) (omega arith) w.2

pub found_none : (t : ℕ) (h : History) → find_flying t h ≡ None → flies t (held h) ≡ false
unfolding find_flying
found_none t h e = subst (Finds t 0 (held h)) e (finds t 0 (held h))

pub flies_mid : (t : ℕ) (o : Operation) (os ps : List Operation) → flying_by t o ≡ true → flies t (os ++ (o ∷ ps)) ≡ true
unfolding flies
flies_mid t o [] ps e = rw e
flies_mid t o (x ∷ os) ps e = rw (flies_mid t o os ps e) (or-true (flying_by t x))

pub found_flies : {t i : ℕ} {os : List Operation} → Found t os i → flies t os ≡ true
unfolding flying_by is_pending
found_flies {t} {i} {os} w =
    ap (flies t) w.split ∙ flies_mid t w.one w.before w.after (rw (eq-eqb w.one.thread t w.own) (ap is_pending w.in_flight))

pub flying_at : (t : ℕ) (h : History) → flies t (held h) ≡ true → (i : ℕ) × (find_flying t h ≡ Some i)
flying_at t h e = go (find_flying t h) refl
  where
    go : (p : Option ℕ) → find_flying t h ≡ p → (i : ℕ) × (find_flying t h ≡ Some i)
    go (Some i) z = (i, z)
    go None z = not_both e (found_none t h z)

pub flying_none : (t : ℕ) (h : History) → flies t (held h) ≡ false → find_flying t h ≡ None
flying_none t h e = go (find_flying t h) refl
  where
    go : (p : Option ℕ) → find_flying t h ≡ p → find_flying t h ≡ None
    go (Some i) z = not_both (found_flies (found_at t h i z)) e
    go None z = z

-- the operation there, and what is held once it has returned

found_below : {t i : ℕ} (h : History) → Found t (held h) i → i < h.count
found_below h w =
    let l : length (held h) ≡ length w.before + suc (length w.after) = ap length w.split ∙ length-append w.before (w.one ∷ w.after) in
    omega (arith, w.place, length-take h.count h.ops)

pub held_completed : {t i : ℕ} (h : History) (ret : Ret) (w : Found t (held h) i)
    → held (completed h i t ret) ≡ w.before ++ (operation t w.one.op (Some ret) ∷ w.after)
held_completed {t} {i} h ret w =
    let o : operation_at h i ≡ w.one
    = sym (get_or-take h.count h.ops i blank_operation (found_below h w))
    ∙ ap (λ (l : List Operation). get_or l i blank_operation) w.split
    ∙ get_or_at w.before w.one w.after blank_operation i w.place in
    let x : Operation = operation t w.one.op (Some ret) in
    let e : operation (operation_at h i).thread (operation_at h i).op (Some ret) ≡ x
    = ap (λ (y : Operation). operation y.thread y.op (Some ret)) o ∙ ap (λ (u : ℕ). operation u w.one.op (Some ret)) w.own in
    ap (λ (y : Operation). take h.count (set h.ops i y)) e
    ∙ take-set-lt h.count h.ops i x (found_below h w)
    ∙ ap (λ (l : List Operation). set l i x) w.split
    ∙ set_at w.before w.one w.after x i w.place
