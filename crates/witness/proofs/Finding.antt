-- The search for a thread's operation of a number, from place i on.
use Rattle.std.proofs.Common.{ℕ, zero, suc, ◌+◌, ◌-◌, ◌<◌, ◌≤◌, ◌≡◌, refl, Bool, true, false, ◌≢◌, List, [], ◌∷◌, add-one, arith, length, drop, drop-cons, drop_of_length-le, eq-eqb, ne_eqb}
use Rattle.std.proofs.Math.ListN.{get_or}
use Rattle.std.specs.Prelude.{eqb}
use Rattle.values.specs.Value.{pick}
use Rattle.stepping.specs.declared.histories.Operation.{Operation}
use Rattle.stepping.specs.Record.{blank_operation}
use Rattle.witness.specs.WordsPlayed.{place_of}

-- what is left to look at gives the place, counted from i on
abbrev pub Finding : List Operation → ℕ → ℕ → ℕ → ℕ → Type 0
Finding os t k left i = i + place_of (drop i os) t left ≡ place_of os t k

module _ (os : List Operation) (t k left i : ℕ) (w : Finding os t k left i) where
  module _ (l : i < length os) where
    here : drop i os ≡ get_or os i blank_operation ∷ drop (i + 1) os
    here = rw (add-one i) (drop-cons os i blank_operation l)

    pub found : (get_or os i blank_operation).thread ≡ t → left ≡ 0 → i ≡ place_of os t k
    unfolding place_of
    found e z =
        let a : place_of (drop i os) t left ≡ 0 = rw (here, z, eq-eqb _ t e) in
        omega (arith, w)

    pub find_own : (get_or os i blank_operation).thread ≡ t → left ≢ 0 → Finding os t k (left - 1) (i + 1)
    unfolding place_of
    find_own e d = go left w d
      where
        go : (n : ℕ) → i + place_of (drop i os) t n ≡ place_of os t k → n ≢ 0 → Finding os t k (n - 1) (i + 1)
        go zero q d = absurd (d refl)
        go (suc n) q d =
            let b : suc n - 1 ≡ n = omega arith in
            let a : place_of (drop i os) t (suc n) ≡ suc (place_of (drop (i + 1) os) t n) = rw (here, eq-eqb _ t e) in
            rw b (omega arith)

    pub find_other : (get_or os i blank_operation).thread ≢ t → Finding os t k left (i + 1)
    unfolding place_of
    find_other d = go left w
      where
        go : (n : ℕ) → i + place_of (drop i os) t n ≡ place_of os t k → Finding os t k n (i + 1)
        go zero e =
            let a : place_of (drop i os) t 0 ≡ suc (place_of (drop (i + 1) os) t 0) = rw (here, ne_eqb _ t d) in
            omega arith
        go (suc n) e =
            let a : place_of (drop i os) t (suc n) ≡ suc (place_of (drop (i + 1) os) t (suc n)) = rw (here, ne_eqb _ t d) in
            omega arith

  pub find_end : length os ≤ i → length os ≤ place_of os t k
  unfolding place_of
  find_end l =
      let a : place_of (drop i os) t left ≡ 0 = rw (drop_of_length-le os l) in
      omega (arith, w)

-- what is found has as many before it

number_le : (os : List Operation) (t k : ℕ) → place_of os t k < length os → k ≤ place_of os t k
unfolding place_of
number_le [] t k l = absurd (omega arith)
number_le (o ∷ os) t zero l = omega arith
number_le (o ∷ os) t (suc k) l = go (eqb o.thread t) (λ n m. number_le os t n m) l
  where
    go : (b : Bool) → ((n : ℕ) → place_of os t n < length os → n ≤ place_of os t n) → suc (place_of os t (pick b k (suc k))) < suc (length os)
        → suc k ≤ suc (place_of os t (pick b k (suc k)))
    go true f l = let z = f k (omega arith) in omega arith
    go false f l = let z = f (suc k) (omega arith) in omega arith

pub number_below : (os : List Operation) (t k i : ℕ) → i ≡ place_of os t k → i < length os → k < length os
number_below os t k i e l = omega (arith, number_le os t k (omega (arith, e)))
