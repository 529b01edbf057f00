-- Progress counters, thread by thread: what "next", "met" and "all placed" say of each.
use Rattle.std.specs.Prelude.{ℕ, zero, suc, ◌+◌, ◌≤◌, ◌<◌, ◌≡◌, refl, ◌≢◌, Bool, true, false, cond, List, [], ◌∷◌, length, get_or, drop, eqb, leb}
use Rattle.std.proofs.Common.{sym, ap, get_or-set_same, get_or-set_other, eqb-true, leb-true, le-leb, arith}
use Rattle.std.proofs.Math.Option.{Option, none, some}
use Rattle.std.proofs.Math.ListN.{get_elem? as nth}
use Rattle.std.proofs.Math.Seq.{drop-nil}
use Rattle.std.proofs.lemmas.Bool.{eqb-false}
use Rattle.history.specs.Object.{Object}
use Rattle.history.specs.Rows.{Entry, Rows, row}
use Rattle.history.specs.Recorder.{pending}
use Rattle.history.specs.Lists.{not_some, and_left, and_right, and_both}
use Rattle.history.specs.Space.{next, more, met, only_pending, all_placed}

-- counters

pub more_same : (ps : List ℕ) (t : ℕ) → t < length ps → get_or (more ps t) t 0 ≡ suc (get_or ps t 0)
more_same ps t h = get_or-set_same ps t (suc (get_or ps t 0)) 0 h

pub more_other : (ps : List ℕ) (t u : ℕ) → u ≢ t → get_or (more ps t) u 0 ≡ get_or ps u 0
more_other ps t u h = get_or-set_other ps t u (suc (get_or ps t 0)) 0 h

pub more_at : (ps : List ℕ) (t u : ℕ) → (t ≡ u → t < length ps) → get_or (more ps t) u 0 ≡ cond (eqb t u) 1 0 + get_or ps u 0
more_at ps t u h = go (eqb t u) refl
  where
    go : (b : Bool) → eqb t u ≡ b → get_or (more ps t) u 0 ≡ cond b 1 0 + get_or ps u 0
    go true e = let y : t ≡ u = eqb-true t u e in rw (← y, more_same ps t (h y)) (omega arith)
    go false e = rw (more_other ps t u (λ z. eqb-false t u e (sym z))) (omega arith)

pub next_row : {A : Type 0} (rows : List (List A)) (ps : List ℕ) (t : ℕ) → length ps ≡ length rows → next rows ps t ≡ nth (get_or rows t []) (get_or ps t 0)
next_row [] ps t h = refl
next_row (r ∷ rows) [] t h = absurd (omega arith)
next_row (r ∷ rows) (p ∷ ps) zero h = refl
next_row (r ∷ rows) (p ∷ ps) (suc t) h = next_row rows ps t (omega arith)

-- met

pub met_of : (ns ps : List ℕ) → ((u : ℕ) → u < length ps → get_or ns u 0 ≤ get_or ps u 0) → met ns ps ≡ true
met_of [] ps f = refl
met_of (n ∷ ns) [] f = refl
met_of (n ∷ ns) (p ∷ ps) f = and_both (leb n p) (met ns ps) (le-leb n p (f 0 (omega arith))) (met_of ns ps (λ u h. f (suc u) (omega arith)))

pub of_met : (ns ps : List ℕ) → met ns ps ≡ true → (u : ℕ) → u < length ps → get_or ns u 0 ≤ get_or ps u 0
of_met [] ps h u k = omega arith
of_met (n ∷ ns) [] h u k = absurd (omega arith)
of_met (n ∷ ns) (p ∷ ps) h zero k = leb-true n p (and_left (leb n p) (met ns ps) h)
of_met (n ∷ ns) (p ∷ ps) h (suc u) k = of_met ns ps (and_right (leb n p) (met ns ps) h) u (omega arith)

module _ (O : Object) where
  -- all placed

  pub placed_of : (rows : Rows O) (ps : List ℕ) → ((t : ℕ) → only_pending O (drop (get_or ps t 0) (row O rows t)) ≡ true) → all_placed O rows ps ≡ true
  placed_of [] ps f = refl
  placed_of (r ∷ rows) [] f = refl
  placed_of (r ∷ rows) (p ∷ ps) f = and_both (only_pending O (drop p r)) (all_placed O rows ps) (f 0) (placed_of rows ps (λ t. f (suc t)))

  pub of_placed : (rows : Rows O) (ps : List ℕ) → length ps ≡ length rows → all_placed O rows ps ≡ true
      → (t : ℕ) → only_pending O (drop (get_or ps t 0) (row O rows t)) ≡ true
  of_placed [] ps l h t = ap (only_pending O) (drop-nil (get_or ps t 0))
  of_placed (r ∷ rows) [] l h t = absurd (omega arith)
  of_placed (r ∷ rows) (p ∷ ps) l h zero = and_left (only_pending O (drop p r)) (all_placed O rows ps) h
  of_placed (r ∷ rows) (p ∷ ps) l h (suc t) = of_placed rows ps (omega arith) (and_right (only_pending O (drop p r)) (all_placed O rows ps) h) t

  pending_of : (a : Option O.Ret) → ((q : O.Ret) → a ≡ some q → ⊥) → pending O a ≡ true
  pending_of none f = refl
  pending_of (some q) f = absurd (f q refl)

  -- only operations in flight are left after n: the completed ones are among the first n
  pub left_of : (r : List (Entry O)) (n : ℕ) → ((k : ℕ) (e : Entry O) (q : O.Ret) → nth r k ≡ some e → e.ret ≡ some q → k < n)
      → only_pending O (drop n r) ≡ true
  left_of [] n f = ap (only_pending O) (drop-nil n)
  left_of (e ∷ r) zero f =
      and_both (pending O e.ret) (only_pending O r) (pending_of e.ret (λ q h. let z = f 0 e q refl h in omega arith))
      (left_of r zero (λ k g q h m. absurd (let z = f (suc k) g q h m in omega arith)))
  left_of (e ∷ r) (suc n) f = left_of r n (λ k g q h m. let z = f (suc k) g q h m in omega arith)

  pub of_left : (r : List (Entry O)) (n : ℕ) → only_pending O (drop n r) ≡ true
      → (k : ℕ) (e : Entry O) (q : O.Ret) → nth r k ≡ some e → e.ret ≡ some q → k < n
  of_left [] n h k e q m g = not_some m
  of_left (f ∷ r) zero h zero e q m g =
      let a : f ≡ e = cc in
      let b : pending O e.ret ≡ true = rw a at (and_left (pending O f.ret) (only_pending O r) h) in
      let c : pending O (some q) ≡ true = rw g at b in
      absurd (let z : ◌≡◌ {A = ℕ} 0 1 = cc in omega arith)
  of_left (f ∷ r) zero h (suc k) e q m g = absurd (let z = of_left r zero (and_right (pending O f.ret) (only_pending O r) h) k e q m g in omega arith)
  of_left (f ∷ r) (suc n) h zero e q m g = omega arith
  of_left (f ∷ r) (suc n) h (suc k) e q m g = let z = of_left r n h k e q m g in omega arith

  -- placing one more

  left_on : (r : List (Entry O)) (p : ℕ) → only_pending O (drop p r) ≡ true → only_pending O (drop (suc p) r) ≡ true
  left_on [] p h = refl
  left_on (e ∷ r) zero h = and_right (pending O e.ret) (only_pending O r) h
  left_on (e ∷ r) (suc p) h = left_on r p h

  -- what is all placed stays so
  pub placed_on : (rows : Rows O) (ps : List ℕ) (t : ℕ) → all_placed O rows ps ≡ true → all_placed O rows (more ps t) ≡ true
  placed_on [] ps t h = refl
  placed_on (r ∷ rows) [] t h = refl
  placed_on (r ∷ rows) (p ∷ ps) zero h =
      and_both _ _ (left_on r p (and_left _ (all_placed O rows ps) h)) (and_right (only_pending O (drop p r)) _ h)
  placed_on (r ∷ rows) (p ∷ ps) (suc t) h =
      and_both (only_pending O (drop p r)) _ (and_left (only_pending O (drop p r)) (all_placed O rows ps) h)
      (placed_on rows ps t (and_right (only_pending O (drop p r)) _ h))

  left_back : (r : List (Entry O)) (p : ℕ) (e : Entry O) → nth r p ≡ some e → pending O e.ret ≡ true → only_pending O (drop (suc p) r) ≡ true
      → only_pending O (drop p r) ≡ true
  left_back [] p e n k h = not_some n
  left_back (f ∷ r) zero e n k h = let q : f ≡ e = cc in and_both (pending O f.ret) (only_pending O r) (rw q k) h
  left_back (f ∷ r) (suc p) e n k h = left_back r p e n k h

  -- an operation in flight does not make all placed
  pub placed_back : (rows : Rows O) (ps : List ℕ) (t : ℕ) (e : Entry O) → next rows ps t ≡ some e → pending O e.ret ≡ true
      → all_placed O rows (more ps t) ≡ true → all_placed O rows ps ≡ true
  placed_back [] ps t e n k h = refl
  placed_back (r ∷ rows) [] t e n k h = refl
  placed_back (r ∷ rows) (p ∷ ps) zero e n k h =
      and_both _ _ (left_back r p e n k (and_left _ (all_placed O rows ps) h)) (and_right (only_pending O (drop (suc p) r)) _ h)
  placed_back (r ∷ rows) (p ∷ ps) (suc t) e n k h =
      and_both (only_pending O (drop p r)) _ (and_left (only_pending O (drop p r)) (all_placed O rows (more ps t)) h)
      (placed_back rows ps t e n k (and_right (only_pending O (drop p r)) _ h))
