-- Laws that the proofs of several functions cite.
use Prim.Native.Nat.{ℕ, zero, suc, ◌+◌, ◌<◌, ◌≤◌}
use Rattle.std.specs.Prelude.{◌≡◌, Bool, true, List, [], ◌∷◌, length, get_or, take, drop}
use Rattle.std.proofs.Math.Path.{refl, subst}
use Rattle.std.proofs.Common.{sym, eq-or-lt_of_le, add-one, drop_of_length-le, drop-cons, get_or-take, length-take-le}
use Rattle.std.proofs.Math.Bool.{false}
use Rattle.std.proofs.Math.Logic.{⊎_elim}
use native.Mathlib.Omega.{arith}
use Rattle.values.specs.Value.{pick}
use Rattle.values.specs.SameValues.{both}
use Rattle.stepping.specs.Shape.{all_below}

-- a list from place i on
pub drop_more : {A : Type 0} (l : List A) (i : ℕ) (d : A) → i < length l → drop i l ≡ get_or l i d ∷ drop (i + 1) l
drop_more l i d h = rw add-one (drop-cons l i d h)

-- the first n of a list, from place i on

pub held_cons : {A : Type 0} (l : List A) (n i : ℕ) (d : A) → i < n → n ≤ length l
    → drop i (take n l) ≡ get_or l i d ∷ drop (i + 1) (take n l)
held_cons l n i d h k =
    let m : i < length (take n l) = rw (length-take-le n l k) h in
    rw (add-one, drop-cons (take n l) i d m, get_or-take n l i d h) refl

pub held_end : {A : Type 0} (l : List A) (n i : ℕ) → n ≤ i → n ≤ length l → drop i (take n l) ≡ []
held_end l n i h k = let m : length (take n l) ≤ i = rw (length-take-le n l k) h in drop_of_length-le (take n l) m

-- tests

pub neither : (b : Bool) → pick b false false ≡ false
neither true = refl
neither false = refl

pub never : {A : Type 0} → false ≡ true → A
never e = let z : ◌≡◌ {A = ℕ} 0 1 = cc in absurd (omega arith)

-- numbers from the first on that all pass a test
module _ (p : ℕ → Bool) where
  pub below_no : (n u : ℕ) → u < n → p u ≡ false → all_below p n ≡ false
  unfolding all_below
  below_no zero u h e = absurd (omega arith)
  below_no (suc n) u h e =
      let k : u ≤ n = omega arith in
      ⊎_elim (λ q. let f : p n ≡ false = subst (λ (j : ℕ). p j ≡ false) q e in rw f (neither (all_below p n)))
      (λ l. rw (below_no n u l e) refl) (eq-or-lt_of_le k)

  pub below_more : (u : ℕ) → all_below p u ≡ true → p u ≡ true → all_below p (u + 1) ≡ true
  unfolding all_below
  below_more u h e = rw (add-one, h, e) refl

  pub below_at : (n u : ℕ) → all_below p n ≡ true → u < n → p u ≡ true
  unfolding all_below
  below_at zero u h l = absurd (omega arith)
  below_at (suc n) u h l =
      let w = both (all_below p n) (p n) h in
      let k : u ≤ n = omega arith in
      ⊎_elim (λ q. rw q w.1) (λ l. below_at n u w.0 l) (eq-or-lt_of_le k)

  pub below_same : (q : ℕ → Bool) (n : ℕ) → ((u : ℕ) → u < n → p u ≡ q u) → all_below p n ≡ all_below q n
  unfolding all_below
  below_same q zero e = refl
  below_same q (suc n) e = rw (below_same q n (λ u l. e u (omega arith)), e n (omega arith)) refl

  pub below_end : (n u : ℕ) → u ≤ n → n ≤ u → all_below p u ≡ true → true ≡ all_below p n
  below_end n u a b h = let e : n ≡ u = omega arith in rw e (sym h)
