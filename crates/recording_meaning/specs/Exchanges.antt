-- The tests of shape, where an operation comes to those held, and where one takes the place of another.
use Rattle.std.specs.Prelude.{ℕ, ◌+◌, ◌≡◌, refl, Bool, true, false, ◌||◌, List, [], ◌∷◌, ◌++◌, eqb, Some, None}
use Rattle.std.proofs.Common.{sym, ap, ◌∙◌, ne_eqb, arith}
use Rattle.std.proofs.lemmas.Bool.{eqb-false}
use Rattle.history.specs.Lists.{not_both}
use Rattle.values.specs.Value.{pick}
use Rattle.families.specs.declared.Kind.{Kind}
use Rattle.families.specs.declared.Op.{Op}
use Rattle.families.specs.declared.Ret.{Ret}
use Rattle.stepping.specs.declared.histories.Operation.{Operation}
use Rattle.stepping.specs.Record.{operation, is_pending, flying_by}
use Rattle.stepping.specs.Shape.{done_by, count_done, operation_fits, operations_fit, none_of, flying_last}
use Rattle.recording_meaning.specs.Held.{flies}
use Rattle.recording_meaning.specs.Parts.{pick_left, pick_right, pick_both}

-- lists joined

pub fit_append : (k : Kind) (os ps : List Operation) → operations_fit k (os ++ ps) ≡ pick (operations_fit k os) (operations_fit k ps) false
unfolding operations_fit
fit_append k [] ps = refl
fit_append k (o ∷ os) ps = go (operation_fits k o) (fit_append k os ps)
  where
    go : (b : Bool) → operations_fit k (os ++ ps) ≡ pick (operations_fit k os) (operations_fit k ps) false
        → pick b (operations_fit k (os ++ ps)) false ≡ pick (pick b (operations_fit k os) false) (operations_fit k ps) false
    go true e = e
    go false e = refl

none_append : (t : ℕ) (os ps : List Operation) → none_of t (os ++ ps) ≡ pick (none_of t os) (none_of t ps) false
unfolding none_of
none_append t [] ps = refl
none_append t (o ∷ os) ps = go (eqb o.thread t) (none_append t os ps)
  where
    go : (b : Bool) → none_of t (os ++ ps) ≡ pick (none_of t os) (none_of t ps) false
        → pick b false (none_of t (os ++ ps)) ≡ pick (pick b false (none_of t os)) (none_of t ps) false
    go true e = refl
    go false e = e

done_append : (t : ℕ) (os ps : List Operation) → count_done t (os ++ ps) ≡ count_done t os + count_done t ps
unfolding count_done
done_append t [] ps = omega arith
done_append t (o ∷ os) ps = omega (arith, done_append t os ps)

-- an operation that, if it is in flight, is its thread's last

abbrev pub ends : Operation → List Operation → Bool
ends o os = pick (is_pending o.outcome) (none_of o.thread os) true

pub last_first : (o : Operation) (os : List Operation) → flying_last (o ∷ os) ≡ true → ends o os ≡ true
unfolding flying_last
last_first o os e = pick_left (ends o os) (flying_last os) e

pub last_rest : (o : Operation) (os : List Operation) → flying_last (o ∷ os) ≡ true → flying_last os ≡ true
unfolding flying_last
last_rest o os e = pick_right (ends o os) (flying_last os) e

-- one more in flight, where its thread has none

pub last_new : (o : Operation) (os : List Operation) → flying_last os ≡ true → flies o.thread os ≡ false → flying_last (os ++ (o ∷ [])) ≡ true
unfolding flying_last flies none_of flying_by
last_new o [] e f = go (is_pending o.outcome)
  where
    go : (b : Bool) → pick (pick b true true) true false ≡ true
    go true = refl
    go false = refl
last_new o (p ∷ os) e f =
    pick_both (ends p (os ++ (o ∷ []))) (flying_last (os ++ (o ∷ [])))
    (rw (none_append p.thread os (o ∷ [])) (go (is_pending p.outcome) (eqb p.thread o.thread) refl (last_first p os e) f))
    (last_new o os (last_rest p os e) (later (flying_by o.thread p) (flies o.thread os) f))
  where
    later : (a b : Bool) → a || b ≡ false → b ≡ false
    later true b g = not_both refl g
    later false b g = g

    go : (b c : Bool) → eqb p.thread o.thread ≡ c → pick b (none_of p.thread os) true ≡ true → pick c b false || flies o.thread os ≡ false
        → pick b (pick (none_of p.thread os) (pick (eqb o.thread p.thread) false true) false) true ≡ true
    go false c z d g = refl
    go true true z d g = not_both refl g
    go true false z d g = rw (d, ne_eqb o.thread p.thread (λ y. eqb-false p.thread o.thread z (sym y)))

-- one that has returned, in the place of one in flight

none_exchange : (t : ℕ) (o p : Operation) (os ps : List Operation) → p.thread ≡ o.thread → none_of t (os ++ (p ∷ ps)) ≡ none_of t (os ++ (o ∷ ps))
unfolding none_of
none_exchange t o p [] ps e = ap (λ (u : ℕ). pick (eqb u t) false (none_of t ps)) e
none_exchange t o p (x ∷ os) ps e = ap (pick (eqb x.thread t) false) (none_exchange t o p os ps e)

pub last_exchange : (o p : Operation) (os ps : List Operation) → p.thread ≡ o.thread → is_pending p.outcome ≡ false
    → flying_last (os ++ (o ∷ ps)) ≡ true → flying_last (os ++ (p ∷ ps)) ≡ true
unfolding flying_last
last_exchange o p [] ps e n w = rw n (last_rest o ps w)
last_exchange o p (x ∷ os) ps e n w =
    pick_both (ends x (os ++ (p ∷ ps))) (flying_last (os ++ (p ∷ ps)))
    (rw (none_exchange x.thread o p os ps e) (last_first x (os ++ (o ∷ ps)) w))
    (last_exchange o p os ps e n (last_rest x (os ++ (o ∷ ps)) w))

-- what has returned

returned_by : (t u : ℕ) (op : Op) (ret : Ret) → done_by u (operation t op (Some ret)) ≡ eqb t u
unfolding done_by is_pending
returned_by t u op ret = go (eqb t u)
  where
    go : (b : Bool) → pick b true false ≡ b
    go true = refl
    go false = refl

pending_by : (o : Operation) (u : ℕ) → o.outcome ≡ None → done_by u o ≡ false
unfolding done_by is_pending
pending_by o u e = rw e (go (eqb o.thread u))
  where
    go : (b : Bool) → pick b false false ≡ false
    go true = refl
    go false = refl

pub done_new : (u : ℕ) (o : Operation) (os : List Operation) → o.outcome ≡ None → count_done u (os ++ (o ∷ [])) ≡ count_done u os
unfolding count_done
done_new u o os e = done_append u os (o ∷ []) ∙ rw (pending_by o u e) (omega arith)

pub done_exchange : (t u : ℕ) (o : Operation) (ret : Ret) (os ps : List Operation) → o.outcome ≡ None
    → count_done u (os ++ (operation t o.op (Some ret) ∷ ps)) ≡ count_done u (os ++ (o ∷ ps)) + pick (eqb t u) 1 0
unfolding count_done
done_exchange t u o ret os ps e =
    done_append u os (operation t o.op (Some ret) ∷ ps)
    ∙ rw (done_append u os (o ∷ ps), returned_by t u o.op ret, pending_by o u e) (omega arith)
