-- The one pass over the operations of a history: what is left of them, with what was counted so far, is in shape
-- exactly if the history is, and says where each thread's operation in flight stands.
use Rattle.std.proofs.Common.{ℕ, zero, suc, ◌+◌, ◌-◌, ◌<◌, ◌≡◌, refl, sym, ap, subst, Bool, true, false, List, [], ◌∷◌, arith, length, replicate, get_or-set_same, get_or-set_other, eq-eqb, ne_eqb, eqb-true, Option, Some, None}
use Rattle.std.specs.Prelude.{leb, eqb, set, is_none, is_ok}
use Rattle.std.proofs.Math.Dec.{eqb-suc-suc}
use Rattle.std.proofs.Math.ListN.{get_or}
use Rattle.std.proofs.lemmas.Bool.{eqb-false}
use Rattle.values.specs.Value.{pick}
use Rattle.values.specs.Sizes.{threads, capacity}
use Rattle.families.specs.Refusals.{start_check}
use Rattle.families.specs.declared.Kind.{Kind}
use Rattle.families.specs.declared.Ret.{Ret}
use Rattle.stepping.specs.declared.histories.Operation.{Operation}
use Rattle.stepping.specs.declared.histories.History.{History}
use Rattle.stepping.specs.Record.{held, is_pending, flying_by, flying_from, find_flying}
use Rattle.stepping.specs.Shape.{kind_of, done_by, count_done, operation_fits, operations_fit, none_of, flying_last, counts_right, shape_of}
use Rattle.shape.specs.Pass.{counts_by, goes_on, left_after, flying_after, none_left}
use Rattle.values.specs.SameValues.{both}
use Rattle.stepping.specs.RecordLaws.{never, neither, below_no, below_same}

-- no operation of a thread that has one in flight
unfoldable pub clear : List (Option ℕ) → List Operation → Bool
clear flying [] = true
clear flying (o ∷ os) = pick (is_none (get_or flying o.thread None)) (clear flying os) false

-- the operations that are left are in shape, with so many of each thread still to return and these in flight
unfoldable pub rest : Kind → List ℕ → List (Option ℕ) → List Operation → Bool
rest f left flying os =
    pick (operations_fit f os) (pick (flying_last os) (pick (clear flying os) (counts_right left os) false) false) false

-- the first place of two
abbrev or_else : Option ℕ → Option ℕ → Option ℕ
or_else (Some i) q = Some i
or_else None q = q

-- where a thread's operation in flight stands: where it was found, or among the operations that are left
unfoldable pub located : ℕ → ℕ → List (Option ℕ) → List Operation → Option ℕ
located t i flying os = or_else (get_or flying t None) (flying_from t i os)

-- at the start

none_found : (n t : ℕ) → ◌≡◌ {A = Option ℕ} (get_or (replicate n None) t None) None
none_found zero t = refl
none_found (suc n) zero = refl
none_found (suc n) (suc t) = none_found n t

all_clear : (n : ℕ) (os : List Operation) → clear (replicate n None) os ≡ true
unfolding clear
all_clear n [] = refl
all_clear n (o ∷ os) = rw (none_found n o.thread, all_clear n os) refl

pub rest_start : (h : History) → leb h.count capacity ≡ true → is_ok (start_check (kind_of h)) ≡ true
    → rest (kind_of h) h.done (replicate threads None) (held h) ≡ shape_of h
unfolding rest shape_of
rest_start h a b = rw (a, b, all_clear threads (held h)) refl

pub located_start : (h : History) (t : ℕ) → located t 0 (replicate threads None) (held h) ≡ find_flying t h
unfolding located find_flying
located_start h t = rw (none_found threads t) refl

-- at the end

pub rest_end : (f : Kind) (left : List ℕ) (flying : List (Option ℕ)) → none_left left ≡ rest f left flying []
unfolding rest operations_fit flying_last clear counts_right none_left count_done
rest_end f left flying = refl

pub located_end : (t i : ℕ) (flying : List (Option ℕ)) → located t i flying [] ≡ get_or flying t None
unfolding located flying_from
located_end t i flying = go (get_or flying t None)
  where
    go : (q : Option ℕ) → or_else q None ≡ q
    go (Some i) = refl
    go None = refl

-- an operation that does not fit

pub rest_unfit : (f : Kind) (left : List ℕ) (flying : List (Option ℕ)) (o : Operation) (os : List Operation) → operation_fits f o ≡ false
    → rest f left flying (o ∷ os) ≡ false
unfolding rest operations_fit
rest_unfit f left flying o os e = rw e refl

-- an operation that fits and is not counted in

no_clear : (a b x : Bool) → pick a (pick b (pick false x false) false) false ≡ false
no_clear true true x = refl
no_clear true false x = refl
no_clear false b x = refl

no_counts : (a b x : Bool) → pick a (pick b (pick x false false) false) false ≡ false
no_counts true true x = neither x
no_counts true false x = refl
no_counts false b x = refl

-- an operation that has returned is one more of its thread

done_own : (o : Operation) (r : Ret) → o.outcome ≡ Some r → done_by o.thread o ≡ true
unfolding done_by is_pending
done_own o r e = rw (eq-eqb o.thread o.thread refl, e) refl

done_other : (o : Operation) (t : ℕ) → (o.thread ≡ t → ⊥) → done_by t o ≡ false
unfolding done_by
done_other o t n = rw (ne_eqb _ _ n) refl

done_pending : (o : Operation) (t : ℕ) → o.outcome ≡ None → done_by t o ≡ false
unfolding done_by is_pending
done_pending o t e = rw e (neither (eqb o.thread t))

turned : (b : Bool) → pick b false true ≡ false → b ≡ true
turned true e = refl
turned false e = sym e

counts_short : (left : List ℕ) (o : Operation) (os : List Operation) (r : Ret) → o.thread < threads → o.outcome ≡ Some r
    → get_or left o.thread 0 ≡ 0 → counts_right left (o ∷ os) ≡ false
unfolding counts_right count_done
counts_short left o os r l b z =
    below_no (λ t. eqb (get_or left t 0) (pick (done_by t o) 1 0 + count_done t os)) threads o.thread l
    (rw (done_own o r b) (ne_eqb (get_or left o.thread 0) (1 + count_done o.thread os) (λ q. absurd (omega arith))))

pub rest_no : (f : Kind) (left : List ℕ) (flying : List (Option ℕ)) (o : Operation) (os : List Operation) → o.thread < threads → goes_on left flying o ≡ false
    → rest f left flying (o ∷ os) ≡ false
unfolding rest clear goes_on
rest_no f left flying o os l e = go (is_none (get_or flying o.thread None)) refl o.outcome refl
  where
    left_none : {r : Ret} → is_none (get_or flying o.thread None) ≡ true → o.outcome ≡ Some r → get_or left o.thread 0 ≡ 0
    left_none a b = let z : pick (eqb (get_or left o.thread 0) 0) false true ≡ false = rw (a, b) at e in eqb-true _ _
        (turned (eqb (get_or left o.thread 0) 0) z)

    go : (m : Bool) → is_none (get_or flying o.thread None) ≡ m → (out : Option Ret) → o.outcome ≡ out
        → pick (operations_fit f (o ∷ os)) (pick (flying_last (o ∷ os)) (pick (pick (is_none (get_or flying o.thread None)) (clear flying os) false)
        (counts_right left (o ∷ os)) false) false) false ≡ false
    go false a out b = rw a (no_clear (operations_fit f (o ∷ os)) (flying_last (o ∷ os)) (counts_right left (o ∷ os)))
    go true a None b = let z : true ≡ false = rw (a, b) at e in let n : ◌≡◌ {A = ℕ} 0 1 = cc in absurd (omega arith)
    go true a (Some r) b = rw (counts_short left o os r l b (left_none a b))
        (no_counts (operations_fit f (o ∷ os)) (flying_last (o ∷ os)) (pick (is_none (get_or flying o.thread None)) (clear flying os) false))

-- an operation that fits and is counted in

clear_set : (flying : List (Option ℕ)) (t i : ℕ) (os : List Operation) → t < length flying
    → clear (set flying t (Some i)) os ≡ pick (clear flying os) (none_of t os) false
unfolding clear none_of
clear_set flying t i [] l = refl
clear_set flying t i (o ∷ os) l = rw (clear_set flying t i os l) (go (eqb o.thread t) refl)
  where
    own : o.thread ≡ t → is_none (get_or (set flying t (Some i)) o.thread None) ≡ false
    own e = rw (e, get_or-set_same flying t (Some i) None l) refl

    swap : (a b c : Bool) → pick a (pick b c false) false ≡ pick (pick a b false) c false
    swap true b c = refl
    swap false b c = refl

    go : (b : Bool) → eqb o.thread t ≡ b
        → pick (is_none (get_or (set flying t (Some i)) o.thread None)) (pick (clear flying os) (none_of t os) false) false
        ≡ pick (pick (is_none (get_or flying o.thread None)) (clear flying os) false) (pick (eqb o.thread t) false (none_of t os)) false
    go true e = rw (e, own (eqb-true _ _ e)) (sym (neither (pick (is_none (get_or flying o.thread None)) (clear flying os) false)))
    go false e =
        rw (e, get_or-set_other flying t o.thread (Some i) None (eqb-false _ _ e))
        (swap (is_none (get_or flying o.thread None)) (clear flying os) (none_of t os))

-- one less of a thread to come, and one less of its operations that have returned

one_less : (n d : ℕ) → eqb n 0 ≡ false → eqb n (1 + d) ≡ eqb (n - 1) d
one_less zero d e = let n : ◌≡◌ {A = ℕ} 0 1 = cc in absurd (omega arith)
one_less (suc n) d e =
    let a : suc n - 1 ≡ n = omega arith in
    let b : 1 + d ≡ suc d = omega arith in
    rw (a, b) (eqb-suc-suc n d)

no_more : (n : ℕ) → 0 + n ≡ n
no_more n = omega arith

counts_less : (left : List ℕ) (o : Operation) (os : List Operation) (r : Ret) → o.thread < length left → o.outcome ≡ Some r
    → eqb (get_or left o.thread 0) 0 ≡ false → counts_right left (o ∷ os) ≡ counts_right (set left o.thread (get_or left o.thread 0 - 1)) os
unfolding counts_right count_done
counts_less left o os r l b z = below_same _ _ threads (λ t k. go t (eqb o.thread t) refl)
  where
    less : ℕ → ℕ
    less t = get_or (set left o.thread (get_or left o.thread 0 - 1)) t 0

    own : eqb (get_or left o.thread 0) (pick (done_by o.thread o) 1 0 + count_done o.thread os) ≡ eqb (less o.thread)
        (count_done o.thread os)
    own =
        rw (done_own o r b, get_or-set_same left o.thread (get_or left o.thread 0 - 1) 0 l)
        (one_less (get_or left o.thread 0) (count_done o.thread os) z)

    go : (t : ℕ) (b : Bool) → eqb o.thread t ≡ b
        → eqb (get_or left t 0) (pick (done_by t o) 1 0 + count_done t os) ≡ eqb (less t) (count_done t os)
    go t true e =
        subst (λ (t : ℕ). eqb (get_or left t 0) (pick (done_by t o) 1 0 + count_done t os) ≡ eqb (less t) (count_done t os)) (eqb-true _ _ e) own
    go t false e =
        rw (done_other o t (eqb-false _ _ e), get_or-set_other left o.thread t (get_or left o.thread 0 - 1) 0 (λ q. eqb-false _ _ e (sym q)))
        (ap (eqb (get_or left t 0)) (no_more (count_done t os)))

counts_flying : (left : List ℕ) (o : Operation) (os : List Operation) → o.outcome ≡ None → counts_right left (o ∷ os) ≡ counts_right left os
unfolding counts_right count_done
counts_flying left o os b =
    below_same _ _ threads (λ t k. rw (done_pending o t b) (ap (eqb (get_or left t 0)) (no_more (count_done t os))))

kept : (b : Bool) → pick b false true ≡ true → b ≡ false
kept true e = sym e
kept false e = refl

counted : (left : List ℕ) (flying : List (Option ℕ)) (o : Operation) → goes_on left flying o ≡ true
    → (is_none (get_or flying o.thread None) ≡ true) × (counts_by o.outcome (get_or left o.thread 0) ≡ true)
unfolding goes_on
counted left flying o e = both (is_none (get_or flying o.thread None)) (counts_by o.outcome (get_or left o.thread 0)) e

-- one that is in flight takes over what the order asked
mix : (a b c d e : Bool) → pick a (pick (pick b c false) (pick d e false) false) false ≡ pick a (pick c (pick (pick d b false) e false) false) false
mix true true true true e = refl
mix true true true false e = refl
mix true true false d e = refl
mix true false true true e = refl
mix true false true false e = refl
mix true false false d e = refl
mix false b c d e = refl

pub rest_yes : (f : Kind) (i : ℕ) (left : List ℕ) (flying : List (Option ℕ)) (o : Operation) (os : List Operation) → o.thread < length left → o.thread < length flying
    → operation_fits f o ≡ true → goes_on left flying o ≡ true
    → rest f left flying (o ∷ os) ≡ rest f (left_after left o) (flying_after i flying o) os
unfolding rest operations_fit flying_last clear left_after flying_after is_pending
rest_yes f i left flying o os k l g e = go o.outcome refl
  where
    w : (is_none (get_or flying o.thread None) ≡ true) × (counts_by o.outcome (get_or left o.thread 0) ≡ true)
    w = counted left flying o e

    go : (out : Option Ret) → o.outcome ≡ out → rest f left flying (o ∷ os) ≡ rest f (left_after left o) (flying_after i flying o) os
    go None b =
        rw (g, w.0, counts_flying left o os b, b, clear_set flying o.thread i os l)
        (mix (operations_fit f os) (none_of o.thread os) (flying_last os) (clear flying os) (counts_right left os))
    go (Some r) b =
        rw (g, w.0, counts_less left o os r k b (kept (eqb (get_or left o.thread 0) 0) (rw b at w.1)), b) refl

-- what is in flight stands where it was found

none_is : (q : Option ℕ) → is_none q ≡ true → q ≡ None
none_is (Some i) e = never e
none_is None e = refl

pub located_step : (t i : ℕ) (left : List ℕ) (flying : List (Option ℕ)) (o : Operation) (os : List Operation) → o.thread < length flying → goes_on left flying o ≡ true
    → located t i flying (o ∷ os) ≡ located t (i + 1) (flying_after i flying o) os
unfolding located flying_after flying_from flying_by is_pending
located_step t i left flying o os l e = go o.outcome refl (eqb o.thread t) refl
  where
    w : (is_none (get_or flying o.thread None) ≡ true) × (counts_by o.outcome (get_or left o.thread 0) ≡ true)
    w = counted left flying o e

    own : o.thread ≡ t → get_or flying t None ≡ None
    own q = none_is (get_or flying t None) (rw q at w.0)

    found : o.thread ≡ t → get_or (set flying o.thread (Some i)) t None ≡ Some i
    found q = rw q (get_or-set_same flying t (Some i) None (rw q at l))

    go : (out : Option Ret) → o.outcome ≡ out → (b : Bool) → eqb o.thread t ≡ b → located t i flying (o ∷ os) ≡ located t (i + 1)
        (flying_after i flying o) os
    go (Some r) a true q = rw (q, a) refl
    go (Some r) a false q = rw (q, a) refl
    go None a false q = rw (q, a, get_or-set_other flying o.thread t (Some i) None (λ z. eqb-false _ _ q (sym z))) refl
    go None a true q = rw (q, a, own (eqb-true _ _ q), found (eqb-true _ _ q)) refl
