-- What a history in shape tells of its places and counts.
use Rattle.std.specs.Prelude.{ℕ, ◌+◌, ◌<◌, ◌≤◌, ◌≡◌, Bool, true, false, List, [], ◌∷◌, leb, length, get_or, Option, Some, None, is_ok}
use Rattle.std.proofs.Common.{arith}
use Rattle.std.proofs.Math.Dec.{eqb}
use Rattle.std.proofs.Math.ListN.{length-take}
use borrow.Author.Tests.{eqb-true, leb-true}
use Rattle.values.specs.Value.{pick}
use Rattle.values.specs.Sizes.{threads, capacity}
use Rattle.families.specs.Refusals.{start_check}
use Rattle.stepping.specs.declared.histories.Operation.{Operation}
use Rattle.stepping.specs.declared.histories.History.{History}
use Rattle.stepping.specs.Record.{held, flying_by, flying_from, find_flying}
use Rattle.stepping.specs.Shape.{kind_of, done_by, count_done, operations_fit, flying_last, counts_right, shape_of, shaped_with}
use Rattle.values.specs.SameValues.{both}
use Rattle.stepping.specs.RecordLaws.{never, below_at}

-- what is found is among what is held

Below : ℕ → Option ℕ → Type 0
Below n (Some i) = i < n
Below n None = Unit {0}

from_below : (t i : ℕ) (os : List Operation) → Below (i + length os) (flying_from t i os)
unfolding flying_from Below
from_below t i [] = tt
from_below t i (o ∷ os) = go (flying_by t o) (flying_from t (i + 1) os) (from_below t (i + 1) os)
  where
    go : (b : Bool) (r : Option ℕ) → Below (i + 1 + length os) r → Below (i + length (o ∷ os)) (pick b (Some i) r)
    go true r w = omega arith
    go false (Some j) w = omega arith
    go false None w = tt

found_in : (t : ℕ) (h : History) (i : ℕ) → find_flying t h ≡ Some i → i < h.count
unfolding find_flying Below
found_in t h i e =
    let b : Below (0 + length (held h)) (Some i) = rw e at (from_below t 0 (held h)) in
    omega (arith, length-take h.count h.ops)

-- what shape says of the counts

count_le : (t : ℕ) (os : List Operation) → count_done t os ≤ length os
unfolding count_done
count_le t [] = omega arith
count_le t (o ∷ os) = go (done_by t o) (count_le t os)
  where
    go : (b : Bool) → count_done t os ≤ length os → pick b 1 0 + count_done t os ≤ length (o ∷ os)
    go true l = omega arith
    go false l = omega arith

module _ (noted : Bool) (h : History) (e : shaped_with noted h ≡ true) where
  shaped : shape_of h ≡ true
  shaped = go noted e
    where
      go : (b : Bool) → pick b (shape_of h) false ≡ true → shape_of h ≡ true
      go true e = e
      go false e = never e

  few : h.count ≤ capacity
  unfolding shape_of
  few = leb-true _ _ (both (leb h.count capacity) _ shaped).0

  counts : counts_right h.done (held h) ≡ true
  unfolding shape_of
  counts =
      let a = (both (leb h.count capacity) _ shaped).1 in
      let b = (both (is_ok (start_check (kind_of h))) _ a).1 in
      let c = (both (operations_fit (kind_of h) (held h)) _ b).1 in
      (both (flying_last (held h)) _ c).1

  pub place_small : (t i : ℕ) → find_flying t h ≡ Some i → i < capacity
  place_small t i q = omega (arith, found_in t h i q, few)

  pub done_small : (t : ℕ) → t < threads → get_or h.done t 0 ≤ capacity
  unfolding counts_right
  done_small t k =
      let q = below_at (λ t. eqb (get_or h.done t 0) (count_done t (held h))) threads t counts k in
      omega (arith, eqb-true (get_or h.done t 0) (count_done t (held h)) q, count_le t (held h), length-take h.count h.ops, few)
