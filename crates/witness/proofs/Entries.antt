-- A thread's next operation, read off the record: the entry at the place that is found.
use Rattle.std.proofs.Common.{ℕ, zero, suc, ◌+◌, ◌<◌, ◌≤◌, ◌≡◌, refl, sym, ap, ◌∙◌, Bool, true, false, cond, List, [], ◌∷◌, arith, length, length-take, get_or-take}
use Rattle.std.proofs.Math.Option.{Option, none, some}
use Rattle.std.proofs.Math.ListN.{get_or, get_or-eq_default, get_elem? as nth}
use Rattle.std.specs.Prelude.{eqb}
use Rattle.history.specs.Rows.{Entry, row}
use Rattle.history.specs.Space.{next}
use Rattle.history.specs.Progress.{next_row}
use Rattle.values.specs.Value.{pick}
use Rattle.values.specs.Sizes.{threads, capacity}
use Rattle.families.specs.Families.{families}
use Rattle.stepping.specs.declared.histories.Operation.{Operation}
use Rattle.stepping.specs.declared.histories.History.{History}
use Rattle.stepping.specs.Record.{blank_operation, held, operation_at}
use Rattle.recording_meaning.specs.Reading.{Sized, entry_of, entries, of_thread, rows_of}
use Rattle.recording_meaning.specs.Rowing.{rows_many, row_is}
use Rattle.witness.specs.WordsPlayed.{place_of}

module _ (needs : ℕ → List ℕ) where
  -- the entry at place j of the operations, of which the first stands at place i
  entry_in : ℕ → List Operation → ℕ → Option (Entry families)
  entry_in i [] j = none
  entry_in i (o ∷ os) zero = some (entry_of o (needs i))
  entry_in i (o ∷ os) (suc j) = entry_in (suc i) os j

  found_entry : (i : ℕ) (os : List Operation) (t k : ℕ) → nth (of_thread t (entries needs i os)) k ≡ entry_in i os (place_of os t k)
  unfolding place_of entry_in
  found_entry i [] t k = refl
  found_entry i (o ∷ os) t zero = go (eqb o.thread t) (found_entry (suc i) os t zero)
    where
      go : (b : Bool) → nth (of_thread t (entries needs (suc i) os)) 0 ≡ entry_in (suc i) os (place_of os t 0)
          → nth (cond b (entry_of o (needs i) ∷ of_thread t (entries needs (suc i) os)) (of_thread t (entries needs (suc i) os))) 0
          ≡ entry_in i (o ∷ os) (pick b 0 (suc (place_of os t 0)))
      go true h = refl
      go false h = h
  found_entry i (o ∷ os) t (suc k) = go (eqb o.thread t) (λ n. found_entry (suc i) os t n)
    where
      go : (b : Bool) → ((n : ℕ) → nth (of_thread t (entries needs (suc i) os)) n ≡ entry_in (suc i) os (place_of os t n))
          → nth (cond b (entry_of o (needs i) ∷ of_thread t (entries needs (suc i) os)) (of_thread t (entries needs (suc i) os))) (suc k)
          ≡ entry_in (suc i) os (place_of os t (pick b k (suc k)))
      go true f = f k
      go false f = f (suc k)

  entry_there : (i j p : ℕ) (os : List Operation) → p ≡ i + j → j < length os → entry_in i os j ≡ some (entry_of (get_or os j blank_operation) (needs p))
  unfolding entry_in
  entry_there i j p [] e l = absurd (omega arith)
  entry_there i zero p (o ∷ os) e l = let q : p ≡ i = omega arith in rw q
  entry_there i (suc j) p (o ∷ os) e l = entry_there (suc i) j p os (omega arith) (omega arith)

  entry_past : (i j : ℕ) (os : List Operation) → length os ≤ j → entry_in i os j ≡ none
  unfolding entry_in
  entry_past i j [] l = refl
  entry_past i zero (o ∷ os) l = absurd (omega arith)
  entry_past i (suc j) (o ∷ os) l = entry_past (suc i) j os (omega arith)

  pub held_many : (h : History) → Sized h → h.count ≤ capacity → length (held h) ≡ h.count
  held_many h z few = omega (arith, length-take h.count h.ops, z.places)

  module _ (h : History) (z : Sized h) (few : h.count ≤ capacity) (ps : List ℕ) (many : length ps ≡ threads) (t : ℕ) where
    next_is : next (rows_of needs h) ps t ≡ nth (row families (rows_of needs h) t) (get_or ps t 0)
    next_is = next_row (rows_of needs h) ps t (many ∙ sym (rows_many needs h))

    -- no thread of that number
    pub next_unknown : threads ≤ t → next (rows_of needs h) ps t ≡ none
    next_unknown l =
        next_is ∙ ap (λ (r : List (Entry families)). nth r (get_or ps t 0)) (get_or-eq_default (rows_of needs h) [] (omega (arith, rows_many needs h)))

    module _ (low : t < threads) where
      next_in : next (rows_of needs h) ps t ≡ entry_in 0 (held h) (place_of (held h) t (get_or ps t 0))
      next_in =
          next_is
          ∙ ap (λ (r : List (Entry families)). nth r (get_or ps t 0)) (row_is needs h t low)
          ∙ found_entry 0 (held h) t (get_or ps t 0)

      pub next_there : (i : ℕ) → i ≡ place_of (held h) t (get_or ps t 0) → i < h.count
          → next (rows_of needs h) ps t ≡ some (entry_of (operation_at h i) (needs i))
      next_there i e l =
          next_in
          ∙ ap (entry_in 0 (held h)) (sym e)
          ∙ entry_there 0 i i (held h) (omega arith) (omega (arith, held_many h z few))
          ∙ ap (λ (o : Operation). some (entry_of o (needs i))) (get_or-take h.count h.ops i blank_operation l)

      pub next_none : (i : ℕ) → i ≡ place_of (held h) t (get_or ps t 0) → h.count ≤ i → next (rows_of needs h) ps t ≡ none
      next_none i e l = next_in ∙ ap (entry_in 0 (held h)) (sym e) ∙ entry_past 0 i (held h) (omega (arith, held_many h z few))
