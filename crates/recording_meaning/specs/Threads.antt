-- Rows by thread: what one thing more, and a thing exchanged, does to each of them.
use Rattle.std.specs.Prelude.{ℕ, zero, suc, ◌+◌, ◌<◌, ◌≤◌, ◌≡◌, refl, ◌≢◌, Bool, true, false, cond, ◌||◌, List, [], ◌∷◌, ◌++◌, length, get_or, set, eqb, ltb}
use Rattle.std.proofs.Common.{sym, ap, ◌∙◌, append-nil, ltb-true, ltb-false, eq-eqb, ne_eqb, arith}
use Rattle.std.proofs.Math.Option.{none, some}
use Rattle.history.specs.Object.{Object}
use Rattle.history.specs.Rows.{Entry, operations}
use Rattle.history.specs.Recorder.{pending, flying, close_row, close}
use Rattle.history.specs.Lists.{not_both}
use Rattle.recording_meaning.specs.Reading.{of_thread, by_thread}

module _ {A : Type 0} where
  thread_append : (t : ℕ) (l m : List (ℕ × A)) → of_thread t (l ++ m) ≡ of_thread t l ++ of_thread t m
  thread_append t [] m = refl
  thread_append t (p ∷ l) m = go (eqb p.0 t) (thread_append t l m)
    where
      go : (b : Bool) → of_thread t (l ++ m) ≡ of_thread t l ++ of_thread t m
          → cond b (p.1 ∷ of_thread t (l ++ m)) (of_thread t (l ++ m)) ≡ cond b (p.1 ∷ of_thread t l) (of_thread t l) ++ of_thread t m
      go true h = ap (λ (r : List A). p.1 ∷ r) h
      go false h = h

  thread_own : (t : ℕ) (a : A) (l : List (ℕ × A)) → of_thread t ((t, a) ∷ l) ≡ a ∷ of_thread t l
  thread_own t a l = rw (eq-eqb t t refl)

  thread_other : (t u : ℕ) (a : A) (l : List (ℕ × A)) → u ≢ t → of_thread u ((t, a) ∷ l) ≡ of_thread u l
  thread_other t u a l d = rw (ne_eqb t u (λ z. d (sym z)))

  pub rows_length : (k n : ℕ) (l : List (ℕ × A)) → length (by_thread k n l) ≡ n
  rows_length k zero l = refl
  rows_length k (suc n) l = ap suc (rows_length (suc k) n l)

  pub rows_at : (k n i t : ℕ) (l : List (ℕ × A)) → t ≡ k + i → i < n → get_or (by_thread k n l) i [] ≡ of_thread t l
  rows_at k zero i t l e h = absurd (omega arith)
  rows_at k (suc n) zero t l e h = let z : t ≡ k = omega arith in rw z
  rows_at k (suc n) (suc i) t l e h = rows_at (suc k) n i t l (omega arith) (omega arith)

  -- rows that agree but for those of threads before the first are the same
  rows_after : (k n t : ℕ) (l m : List (ℕ × A)) → t < k → ((u : ℕ) → u ≢ t → of_thread u m ≡ of_thread u l) → by_thread k n m ≡ by_thread k n l
  rows_after k zero t l m h f = refl
  rows_after k (suc n) t l m h f = rw (f k (λ z. omega arith), rows_after (suc k) n t l m (omega arith) f)

  rows_set : (k n i t : ℕ) (l m : List (ℕ × A)) (r : List A) → t ≡ k + i → i < n → of_thread t m ≡ r
      → ((u : ℕ) → u ≢ t → of_thread u m ≡ of_thread u l) → by_thread k n m ≡ set (by_thread k n l) i r
  rows_set k zero i t l m r e h own other = absurd (omega arith)
  rows_set k (suc n) zero t l m r e h own other =
      let z : t ≡ k = omega arith in
      rw (sym z, own) (ap (λ (rows : List (List A)). r ∷ rows) (rows_after (suc t) n t l m (omega arith) other))
  rows_set k (suc n) (suc i) t l m r e h own other =
      rw (other k (λ z. omega arith), rows_set (suc k) n i t l m r (omega arith) (omega arith) own other)

  -- one more of thread t, and one of thread t for another

  pub rows_add : (n t : ℕ) (a : A) (l : List (ℕ × A)) → t < n
      → by_thread 0 n (l ++ ((t, a) ∷ [])) ≡ set (by_thread 0 n l) t (get_or (by_thread 0 n l) t [] ++ (a ∷ []))
  rows_add n t a l h =
      rows_set 0 n t t l (l ++ ((t, a) ∷ [])) (get_or (by_thread 0 n l) t [] ++ (a ∷ [])) (omega arith) h
      (thread_append t l ((t, a) ∷ []) ∙ rw (thread_own t a [], rows_at 0 n t t l (omega arith) h))
      (λ u d. thread_append u l ((t, a) ∷ []) ∙ rw (thread_other t u a [] d) (append-nil (of_thread u l)))

  thread_mid : (t : ℕ) (a : A) (l m : List (ℕ × A)) → of_thread t (l ++ ((t, a) ∷ m)) ≡ of_thread t l ++ (a ∷ of_thread t m)
  thread_mid t a l m = thread_append t l ((t, a) ∷ m) ∙ ap (λ (r : List A). of_thread t l ++ r) (thread_own t a m)

  rows_exchange : (n t : ℕ) (a b : A) (l m : List (ℕ × A)) → t < n
      → by_thread 0 n (l ++ ((t, b) ∷ m)) ≡ set (by_thread 0 n (l ++ ((t, a) ∷ m))) t (of_thread t l ++ (b ∷ of_thread t m))
  rows_exchange n t a b l m h =
      rows_set 0 n t t (l ++ ((t, a) ∷ m)) (l ++ ((t, b) ∷ m)) (of_thread t l ++ (b ∷ of_thread t m)) (omega arith) h (thread_mid t b l m)
      (λ u d. thread_append u l ((t, b) ∷ m) ∙ rw (thread_other t u b m d, ← thread_other t u a m d) (sym (thread_append u l ((t, a) ∷ m))))

module _ (O : Object) where
  -- the return goes to the first operation in flight
  close_first : (r s : List (Entry O)) (e : Entry O) (q : O.Ret) → flying O r ≡ false → e.ret ≡ none
      → close_row O (r ++ (e ∷ s)) q ≡ r ++ (record { op = e.op; ret = some q; needs = e.needs } ∷ s)
  close_first [] s e q f n = let p : pending O e.ret ≡ true = ap (pending O) n in rw p
  close_first (g ∷ r) s e q f n = go (pending O g.ret) f (λ k. close_first r s e q k n)
    where
      go : (b : Bool) → b || flying O r ≡ false
          → (flying O r ≡ false → close_row O (r ++ (e ∷ s)) q ≡ r ++ (record { op = e.op; ret = some q; needs = e.needs } ∷ s))
          → cond b (record { op = g.op; ret = some q; needs = g.needs } ∷ (r ++ (e ∷ s))) (g ∷ close_row O (r ++ (e ∷ s)) q)
          ≡ g ∷ (r ++ (record { op = e.op; ret = some q; needs = e.needs } ∷ s))
      go true f h = not_both refl f
      go false f h = ap (λ (l : List (Entry O)). g ∷ l) (h f)

  pub rows_close : (n t : ℕ) (e : Entry O) (q : O.Ret) (l m : List (ℕ × Entry O)) → t < n → flying O (of_thread t l) ≡ false → e.ret ≡ none
      → by_thread 0 n (l ++ ((t, record { op = e.op; ret = some q; needs = e.needs }) ∷ m)) ≡ close O (by_thread 0 n (l ++ ((t, e) ∷ m))) t q
  rows_close n t e q l m h f r =
      rows_exchange n t e _ l m h
      ∙ ap (set (by_thread 0 n (l ++ ((t, e) ∷ m))) t)
      (sym (close_first (of_thread t l) (of_thread t m) e q f r)
      ∙ ap (λ (s : List (Entry O)). close_row O s q) (sym (thread_mid t e l m) ∙ sym (rows_at 0 n t t (l ++ ((t, e) ∷ m)) (omega arith) h)))

  -- how many operations the rows hold

  pub held_none : (k n : ℕ) → operations O (by_thread k n []) ≡ 0
  held_none k zero = refl
  held_none k (suc n) = omega (arith, held_none (suc k) n)

  held_out : (k n t : ℕ) (e : Entry O) (l : List (ℕ × Entry O)) → t < k → operations O (by_thread k n ((t, e) ∷ l)) ≡ operations O (by_thread k n l)
  held_out k zero t e l h = refl
  held_out k (suc n) t e l h = rw (ne_eqb t k (λ z. omega arith), held_out (suc k) n t e l (omega arith))

  pub held_in : (k n t : ℕ) (e : Entry O) (l : List (ℕ × Entry O)) → k ≤ t → t < k + n
      → operations O (by_thread k n ((t, e) ∷ l)) ≡ suc (operations O (by_thread k n l))
  held_in k zero t e l h g = absurd (omega arith)
  held_in k (suc n) t e l h g = go (ltb k t) refl (λ m. held_in (suc k) n t e l m (omega arith))
    where
      go : (b : Bool) → ltb k t ≡ b → (k < t → operations O (by_thread (suc k) n ((t, e) ∷ l)) ≡ suc (operations O (by_thread (suc k) n l)))
          → operations O (by_thread k (suc n) ((t, e) ∷ l)) ≡ suc (operations O (by_thread k (suc n) l))
      go true z f = let m = ltb-true k t z in rw (ne_eqb t k (λ y. omega arith)) (omega (arith, f m))
      go false z f =
          let m : t ≡ k = omega (arith, ltb-false k t z) in
          rw (eq-eqb t k m) (omega (arith, held_out (suc k) n t e l (omega arith)))
