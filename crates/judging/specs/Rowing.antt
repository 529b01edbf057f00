-- A history's rows by the places of its operations: what a thread has next, and what is there before anything is placed.
use Prim.Native.Nat.{ℕ, zero, suc, ◌+◌, ◌≤◌, ◌<◌}
use Rattle.std.specs.Prelude.{◌≡◌, Bool, cond, get_or, set, take, replicate, eqb}
use Rattle.std.proofs.Math.Path.{refl, ap}
use Rattle.std.proofs.Common.{sym, ◌∙◌, subst, take-suc, add-one}
use Rattle.std.proofs.Math.Bool.{true, false}
use Rattle.std.proofs.Math.Option.{none, some}
use mathlib.Core.List.{List, [], ◌∷◌, ◌++◌, map, map-append}
use Rattle.std.proofs.Math.ListN.{length, get_elem? as nth, length-take}
use Rattle.std.proofs.lemmas.List.{length-map}
use native.Mathlib.Omega.{arith}
use Rattle.history.specs.Object.{Object}
use Rattle.history.specs.Rows.{Entry, Rows, row, operations}
use Rattle.history.specs.Recorder.{completed}
use Rattle.history.specs.Space.{next, more, unplaced}
use Rattle.history.specs.Left.{left}
use Rattle.history.specs.Progress.{next_row}
use Rattle.values.specs.Value.{pick}
use Rattle.values.specs.Sizes.{threads, capacity}
use Rattle.families.specs.Families.{families}
use Rattle.stepping.specs.declared.histories.Operation.{Operation}
use Rattle.stepping.specs.declared.histories.History.{History}
use Rattle.stepping.specs.Record.{blank_operation, operation_at}
use Rattle.stepping.specs.Shape.{shape_of}
use Rattle.recording_meaning.specs.Reading.{Sized, entry_of, entries, of_thread, rows_of}
use Rattle.recording_meaning.specs.Rowing.{rows_many, row_is}
use Rattle.recording_meaning.specs.Shaping.{rows_done, rows_count}
use Rattle.recording_meaning.specs.Parts.{parts_of}
use Rattle.judging.specs.Places.{places_in, places_of, sum_of}

-- one more is placed, as the code counts
pub more_set : (ps : List ℕ) (t : ℕ) → more ps t ≡ set ps t (get_or ps t 0 + 1)
more_set ps t = rw (add-one (get_or ps t 0))

-- lists by places

nth_none : {A : Type 0} (r : List A) (p : ℕ) → length r ≤ p → nth r p ≡ none
nth_none [] p h = refl
nth_none (x ∷ r) zero h = absurd (omega arith)
nth_none (x ∷ r) (suc p) h = nth_none r p (omega arith)

nth_map : {A B : Type 0} (f : A → B) (l : List A) (j : ℕ) (d : A) → j < length l → nth (map f l) j ≡ some (f (get_or l j d))
nth_map f [] j d h = absurd (omega arith)
nth_map f (x ∷ l) zero d h = refl
nth_map f (x ∷ l) (suc j) d h = nth_map f l j d (omega arith)

-- before anything is placed

left_start : (O : Object) (rows : Rows O) (done : List ℕ) → length done ≡ length rows
    → ((t : ℕ) → t < length rows → completed O (row O rows t) ≡ get_or done t 0) → left O rows (replicate (length rows) 0) ≡ sum_of done
unfolding left sum_of
left_start O [] [] l f = refl
left_start O [] (n ∷ done) l f = absurd (omega arith)
left_start O (r ∷ rows) [] l f = absurd (omega arith)
left_start O (r ∷ rows) (n ∷ done) l f = omega (arith, f 0 (omega arith), left_start O rows done (omega arith) (λ t h. f (suc t) (omega arith)))

unplaced_start : (O : Object) (rows : Rows O) → unplaced rows (replicate (length rows) 0) ≡ operations O rows
unplaced_start O [] = refl
unplaced_start O (r ∷ rows) = omega (arith, unplaced_start O rows)

-- the operation at a place, with its notes
abbrev pub entry_at : (ℕ → List ℕ) → History → ℕ → Entry families
entry_at needs h i = entry_of (operation_at h i) (needs i)

module _ (needs : ℕ → List ℕ) (h : History) (sized : Sized h) (shape : shape_of h ≡ true) where
  pub left_origin : left families (rows_of needs h) (replicate threads 0) ≡ sum_of h.done
  left_origin =
      subst (λ (n : ℕ). left families (rows_of needs h) (replicate n 0) ≡ sum_of h.done) (rows_many needs h)
      (left_start families (rows_of needs h) h.done (sized.counters ∙ sym (rows_many needs h))
      (λ t l. rows_done needs h (parts_of h shape) t (omega (arith, rows_many needs h))))

  pub unplaced_origin : unplaced (rows_of needs h) (replicate threads 0) ≤ capacity
  unplaced_origin =
      subst (λ (n : ℕ). unplaced (rows_of needs h) (replicate n 0) ≤ capacity) (rows_many needs h)
      (omega (arith, unplaced_start families (rows_of needs h), rows_count needs h (parts_of h shape) sized, (parts_of h shape).few))

  -- a thread's row is what stands at its places
  module _ (t : ℕ) where
    row_more : (i : ℕ) (os : List Operation) (o : Operation)
        → of_thread t (entries needs i (os ++ (o ∷ [])))
        ≡ of_thread t (entries needs i os) ++ pick (eqb o.thread t) (entry_of o (needs (i + length os)) ∷ []) []
    row_more i [] o = let q : i + 0 ≡ i = omega arith in rw q (go (eqb o.thread t))
      where
        go : (b : Bool) → cond b (entry_of o (needs i) ∷ []) [] ≡ pick b (entry_of o (needs i) ∷ []) []
        go true = refl
        go false = refl
    row_more i (p ∷ os) o =
        let q : i + suc (length os) ≡ suc i + length os = omega arith in
        rw q (go (eqb p.thread t) _ (row_more (suc i) os o))
      where
        go : (b : Bool) (last : List (Entry families)) → of_thread t (entries needs (suc i) (os ++ (o ∷ []))) ≡ of_thread t (entries needs (suc i) os) ++ last
            → cond b (entry_of p (needs i) ∷ of_thread t (entries needs (suc i) (os ++ (o ∷ [])))) (of_thread t (entries needs (suc i) (os ++ (o ∷ []))))
            ≡ cond b (entry_of p (needs i) ∷ of_thread t (entries needs (suc i) os)) (of_thread t (entries needs (suc i) os)) ++ last
        go true last e = ap (λ (l : List (Entry families)). entry_of p (needs i) ∷ l) e
        go false last e = e

    row_in : (n : ℕ) → n ≤ capacity → of_thread t (entries needs 0 (take n h.ops)) ≡ map (entry_at needs h) (places_in h t n)
    unfolding places_in
    row_in zero l = refl
    row_in (suc n) l =
        let z = sized.places in
        let m : length (take n h.ops) ≡ n = omega (arith, length-take n h.ops) in
        let q : 0 + length (take n h.ops) ≡ n = omega arith in
        ap (λ (os : List Operation). of_thread t (entries needs 0 os)) (take-suc h.ops n blank_operation (omega arith))
        ∙ row_more 0 (take n h.ops) (operation_at h n)
        ∙ rw (q, row_in n (omega arith), map-append (entry_at needs h) (places_in h t n) (pick (eqb (operation_at h n).thread t) (n ∷ []) []))
        (ap (λ (l : List (Entry families)). map (entry_at needs h) (places_in h t n) ++ l) (go (eqb (operation_at h n).thread t)))
      where
        go : (b : Bool) → pick b (entry_at needs h n ∷ []) [] ≡ map (entry_at needs h) (pick b (n ∷ []) [])
        go true = refl
        go false = refl

    -- a thread's next operation is the one at its next place
    module _ (ps : List ℕ) (low : t < threads) (long : length ps ≡ threads) where
      next_in : next (rows_of needs h) ps t ≡ nth (map (entry_at needs h) (places_of h t)) (get_or ps t 0)
      next_in =
          next_row (rows_of needs h) ps t (long ∙ sym (rows_many needs h))
          ∙ ap (λ (r : List (Entry families)). nth r (get_or ps t 0)) (row_is needs h t low ∙ row_in h.count (parts_of h shape).few)

      pub next_none : length (places_of h t) ≤ get_or ps t 0 → next (rows_of needs h) ps t ≡ none
      next_none l = next_in ∙ nth_none (map (entry_at needs h) (places_of h t)) (get_or ps t 0) (omega (arith, length-map (places_of h t) (entry_at needs h)))

      pub next_some : get_or ps t 0 < length (places_of h t) → next (rows_of needs h) ps t ≡ some (entry_at needs h (get_or (places_of h t) (get_or ps t 0) 0))
      next_some l = next_in ∙ nth_map (entry_at needs h) (places_of h t) (get_or ps t 0) 0 l
