-- The loop over a history: what it has built so far. The sum of a list.
use Rattle.std.proofs.Common.{ℕ, suc, ◌+◌, ◌*◌, ◌<◌, ◌≤◌, ◌≡◌, refl, sym, ap, ◌∙◌, ◌≢◌, List, [], ◌∷◌, ◌++◌, length, replicate, length-append, length-set, get_or-set_same, get_or-set_other, add-one, arith}
use Rattle.std.proofs.Math.ListN.{get_or, get_or-append}
use Rattle.std.specs.Prelude.{set, sum}
use Rattle.std.proofs.lemmas.List.Recursion.{is_sum_by}
use Rattle.std.proofs.Math.Seq.{get_or_at}
use Rattle.history.specs.Lists.{own_or_other, get_d_same}
use Rattle.values.specs.Sizes.{threads, capacity}
use Rattle.stepping.specs.declared.histories.History.{History}
use Rattle.stepping.specs.Record.{operation_at}
use Rattle.stepping.specs.Shape.{InShape}
use Rattle.judging.specs.Places.{places_in, StartedTo, SlottedTo, Started, Slotted, sum_of}
use Rattle.judging.specs.PlacesLaws.{grown_own, grown_other, places_few}

-- The first i operations are indexed.
pub record Built (h : History) (slot started : List ℕ) (i : ℕ) : Type 0 where
  pub shape : InShape h
  pub upto : i ≤ h.count
  pub counts : StartedTo h i started
  pub at : SlottedTo h i slot
  pub slot_long : length slot ≡ threads * capacity
  pub started_long : length started ≡ threads

pub built_start : (h : History) (slot : List ℕ) → InShape h → length slot ≡ threads * capacity → Built h slot (replicate threads 0) 0
unfolding places_in
built_start h slot w l = record {
  shape = w;
  upto = omega arith;
  counts = λ t b. get_d_same threads t 0;
  at = λ t j b c. absurd (omega arith);
  slot_long = l;
  started_long = refl;
}

-- one operation more
module _ {h : History} {slot started : List ℕ} {i : ℕ} (b : Built h slot started i) (more : i < h.count) where
  abbrev own : ℕ
  own = (operation_at h i).thread

  abbrev k : ℕ
  k = get_or started own 0

  pub own_low : (operation_at h i).thread < threads
  own_low = b.shape.known i more

  many : get_or started own 0 ≡ length (places_in h own i)
  many = b.counts own own_low

  pub k_few : get_or started (operation_at h i).thread 0 < capacity
  k_few = omega (arith, many, places_few h own i, b.shape.few)

  pub slot_fits : (operation_at h i).thread * capacity + get_or started (operation_at h i).thread 0 < threads * capacity
  slot_fits = omega (arith, own_low, k_few)

  others : (t : ℕ) → t ≢ own → places_in h t (suc i) ≡ places_in h t i
  others t d = grown_other h t i (λ z. d (sym z))

  counts_more : StartedTo h (suc i) (set started own (k + 1))
  counts_more = own_or_other (λ t. t < threads → get_or (set started own (k + 1)) t 0 ≡ length (places_in h t (suc i))) own
      (λ l. get_or-set_same started own (k + 1) 0 (omega (arith, b.started_long))
      ∙ rw (grown_own h own i refl) (omega (arith, many, length-append (places_in h own i) (i ∷ []))))
      (λ t d l. get_or-set_other started own t (k + 1) 0 d ∙ b.counts t l ∙ ap length (sym (others t d)))

  abbrev filled : List ℕ
  filled = set slot (own * capacity + k) i

  abbrev grown : List ℕ
  grown = places_in h own i ++ (i ∷ [])

  at_own : (j : ℕ) → j < length grown → get_or filled (own * capacity + j) 0 ≡ get_or grown j 0
  at_own = own_or_other (λ j. j < length grown → get_or filled (own * capacity + j) 0 ≡ get_or grown j 0) k
      (λ l. get_or-set_same slot (own * capacity + k) i 0 (omega (arith, b.slot_long, slot_fits))
      ∙ sym (get_or_at (places_in h own i) i [] 0 k (sym many)))
      (λ j d l.
      let m : j < length (places_in h own i) = omega (arith, many, length-append (places_in h own i) (i ∷ [])) in
      get_or-set_other slot (own * capacity + k) (own * capacity + j) i 0 (λ z. d (omega arith))
      ∙ b.at own j own_low m
      ∙ sym (get_or-append (places_in h own i) (i ∷ []) 0 j m))

  at_more : SlottedTo h (suc i) filled
  at_more t = own_or_other
      (λ t. (j : ℕ) → t < threads → j < length (places_in h t (suc i)) → get_or filled (t * capacity + j) 0 ≡ get_or (places_in h t (suc i)) j 0)
      own
      (λ j l. rw (grown_own h own i refl) (at_own j))
      (λ t d j l. rw (others t d) (λ m.
      let few : j < capacity = omega (arith, places_few h t i, b.shape.few) in
      get_or-set_other slot (own * capacity + k) (t * capacity + j) i 0 (λ z. d (omega (arith, k_few))) ∙ b.at t j l m))
      t

  pub built_more : Built h (set slot ((operation_at h i).thread * capacity + get_or started (operation_at h i).thread 0) i)
      (set started (operation_at h i).thread (get_or started (operation_at h i).thread 0 + 1)) (i + 1)
  built_more = rw (add-one i) (record {
    shape = b.shape;
    upto = omega arith;
    counts = counts_more;
    at = at_more;
    slot_long = length-set slot (own * capacity + k) i ∙ b.slot_long;
    started_long = length-set started own (k + 1) ∙ b.started_long;
  })

module _ (h : History) (slot started : List ℕ) (i : ℕ) (b : Built h slot started i) (over : h.count ≤ i) where
  all : i ≡ h.count
  all = omega (arith, b.upto)

  pub all_counted : Started h started
  all_counted = rw all at b.counts

  pub all_slotted : Slotted h slot
  all_slotted = rw all at b.at

pub sum_same : (l : List ℕ) → sum l ≡ sum_of l
unfolding sum_of
sum_same l = sym (is_sum_by sum_of (λ n. n) refl (λ _ _. refl) l)
