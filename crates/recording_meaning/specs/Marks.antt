-- Marks of where each thread's operation in flight stands, kept from event to event.
use Rattle.std.specs.Prelude.{ℕ, ◌+◌, ◌<◌, ◌≡◌, refl, ◌≢◌, Bool, true, false, ◌||◌, List, [], ◌∷◌, ◌++◌, length, get_or, set, replicate, eqb, Option, Some, None}
use Rattle.std.proofs.Math.Path.{sym, ap}
use Rattle.std.proofs.Common.{◌∙◌, length-take, get_or-set_same, get_or-set_other, eq-eqb, ne_eqb, arith}
use Rattle.history.specs.Lists.{own_or_other, not_both, get_d_same}
use Rattle.values.specs.Value.{pick}
use Rattle.values.specs.Sizes.{threads, capacity}
use Rattle.families.specs.declared.Object.{Object}
use Rattle.families.specs.declared.Op.{Op}
use Rattle.families.specs.declared.Ret.{Ret}
use Rattle.stepping.specs.declared.histories.Operation.{Operation}
use Rattle.stepping.specs.declared.histories.History.{History}
use Rattle.stepping.specs.Record.{operation, held, fresh, is_pending, flying_by, flying_from, find_flying, extended, completed}
use Rattle.stepping.specs.Shape.{none_of, flying_last}
use Rattle.recording_meaning.specs.Reading.{Sized}
use Rattle.recording_meaning.specs.Held.{held_extended, flies, Found, found_at, found_none, flying_none, held_completed}
use Rattle.recording_meaning.specs.Exchanges.{last_first, last_rest}

-- The marks say where.
abbrev pub Marks : List (Option ℕ) → History → Type 0
Marks flying h = (t : ℕ) → t < threads → get_or flying t None ≡ find_flying t h

none_of_both : (a b : Bool) → a || b ≡ false → (a ≡ false) × (b ≡ false)
none_of_both true b e = not_both refl e
none_of_both false b e = (refl, e)

-- one more, last

flying_new : (t i : ℕ) (o : Operation) (os : List Operation) → flies t os ≡ false → flying_by t o ≡ true
    → flying_from t i (os ++ (o ∷ [])) ≡ Some (i + length os)
unfolding flying_from flies
flying_new t i o [] f e = rw e (ap Some (omega arith))
flying_new t i o (x ∷ os) f e =
    let w = none_of_both (flying_by t x) (flies t os) f in
    rw w.0 (flying_new t (i + 1) o os w.1 e ∙ ap Some (omega arith))

flying_beside : (u i : ℕ) (o : Operation) (os : List Operation) → flying_by u o ≡ false → flying_from u i (os ++ (o ∷ [])) ≡ flying_from u i os
unfolding flying_from
flying_beside u i o [] e = rw e refl
flying_beside u i o (x ∷ os) e = ap (pick (flying_by u x) (Some i)) (flying_beside u (i + 1) o os e)

-- one in the place of another

flying_exchange : (u i : ℕ) (o p : Operation) (os ps : List Operation) → flying_by u p ≡ flying_by u o
    → flying_from u i (os ++ (p ∷ ps)) ≡ flying_from u i (os ++ (o ∷ ps))
unfolding flying_from
flying_exchange u i o p [] ps e = ap (λ (b : Bool). pick b (Some i) (flying_from u (i + 1) ps)) e
flying_exchange u i o p (x ∷ os) ps e = ap (pick (flying_by u x) (Some i)) (flying_exchange u (i + 1) o p os ps e)

-- an operation of another thread is none of this thread's in flight
other_by : (u : ℕ) (o : Operation) → o.thread ≢ u → flying_by u o ≡ false
unfolding flying_by
other_by u o d = rw (ne_eqb o.thread u d) refl

-- behind an operation in flight its thread has none

after_last : (o : Operation) (os ps : List Operation) → o.outcome ≡ None → flying_last (os ++ (o ∷ ps)) ≡ true → none_of o.thread ps ≡ true
unfolding is_pending
after_last o [] ps e w = rw e at (last_first o ps w)
after_last o (x ∷ os) ps e w = after_last o os ps e (last_rest x (os ++ (o ∷ ps)) w)

none_flies : (t : ℕ) (os : List Operation) → none_of t os ≡ true → flies t os ≡ false
unfolding none_of flies flying_by
none_flies t [] e = refl
none_flies t (o ∷ os) e = go (eqb o.thread t) (λ w. none_flies t os w) e
  where
    go : (b : Bool) → (none_of t os ≡ true → flies t os ≡ false) → pick b false (none_of t os) ≡ true
        → pick b (is_pending o.outcome) false || flies t os ≡ false
    go true rec e = not_both e refl
    go false rec e = rec e

flies_join : (t : ℕ) (os ps : List Operation) → flies t os ≡ false → flies t ps ≡ false → flies t (os ++ ps) ≡ false
unfolding flies
flies_join t [] ps a b = b
flies_join t (o ∷ os) ps a b = let w = none_of_both (flying_by t o) (flies t os) a in rw w.0 (flies_join t os ps w.1 b)

pub marks_fresh : (start : Object) → Marks (replicate threads None) (fresh start)
unfolding fresh find_flying flying_from
marks_fresh start t l = get_d_same {A = Option ℕ} threads t None

module _ (h : History) (flying : List (Option ℕ)) (long : length flying ≡ threads) (m : Marks flying h) (t : ℕ) (l : t < threads) where
  pub marks_extended : (op : Op) → Sized h → h.count < capacity → find_flying t h ≡ None → Marks (set flying t (Some h.count)) (extended h t op)
  unfolding find_flying flying_by is_pending
  marks_extended op z k e =
      own_or_other (λ u. u < threads → get_or (set flying t (Some h.count)) u None ≡ find_flying u (extended h t op)) t
      (λ _. get_or-set_same flying t _ None (rw long l) ∙ sym own)
      (λ u d q. get_or-set_other flying t u _ None d ∙ m u q ∙ sym (other u d))
    where
      new : Operation
      new = operation t op None

      own : find_flying t (extended h t op) ≡ Some h.count
      own =
          ap (flying_from t 0) (held_extended h t op z k)
          ∙ flying_new t 0 new (held h) (found_none t h e) (rw (eq-eqb t t refl) refl)
          ∙ ap Some (omega (arith, length-take h.count h.ops, z.places))

      other : (u : ℕ) → u ≢ t → find_flying u (extended h t op) ≡ find_flying u h
      other u d = ap (flying_from u 0) (held_extended h t op z k) ∙ flying_beside u 0 new (held h) (other_by u new (λ q. d (sym q)))

  pub marks_completed : (ret : Ret) {i : ℕ} → flying_last (held h) ≡ true → find_flying t h ≡ Some i → Marks (set flying t None) (completed h i t ret)
  unfolding find_flying flies flying_by is_pending
  marks_completed ret {i} w e =
      own_or_other (λ u. u < threads → get_or (set flying t None) u None ≡ find_flying u (completed h i t ret)) t
      (λ _. get_or-set_same flying t None None (rw long l) ∙ sym own)
      (λ u d q. get_or-set_other flying t u None None d ∙ m u q ∙ sym (other u d))
    where
      v : Found t (held h) i
      v = found_at t h i e

      x : Operation
      x = operation t v.one.op (Some ret)

      rest : flies t (x ∷ v.after) ≡ false
      rest = rw (eq-eqb t t refl) (none_flies t v.after (rw v.own at (after_last v.one v.before v.after v.in_flight (rw v.split at w))))

      own : find_flying t (completed h i t ret) ≡ None
      own = flying_none t (completed h i t ret) (ap (flies t) (held_completed h ret v) ∙ flies_join t v.before (x ∷ v.after) v.first rest)

      other : (u : ℕ) → u ≢ t → find_flying u (completed h i t ret) ≡ find_flying u h
      other u d =
          ap (flying_from u 0) (held_completed h ret v)
          ∙ flying_exchange u 0 v.one x v.before v.after
          (other_by u x (λ q. d (sym q)) ∙ sym (other_by u v.one (λ q. d (sym q ∙ v.own))))
          ∙ ap (flying_from u 0) (sym v.split)
