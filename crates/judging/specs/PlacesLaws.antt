-- A thread's places are among those looked at, and one more operation is one place more for its own thread alone.
use Prim.Native.Nat.{ℕ, zero, suc, ◌≤◌, ◌<◌}
use Rattle.std.specs.Prelude.{◌≡◌, ◌≢◌, Bool, eqb}
use Rattle.std.proofs.Math.Path.{refl}
use Rattle.std.proofs.Common.{◌∙◌}
use Rattle.std.proofs.Math.Bool.{true, false}
use mathlib.Core.List.{[], ◌∷◌, ◌++◌, append-nil}
use Rattle.std.proofs.Math.ListN.{length, get_or, length-append, get_or-append}
use Rattle.std.proofs.lemmas.List.{get_or_at}
use Rattle.std.proofs.Math.Dec.{ltb}
use borrow.Author.Tests.{ltb-true, ltb-false, eq-eqb, ne_eqb}
use native.Mathlib.Omega.{arith}
use Rattle.values.specs.Value.{pick}
use Rattle.stepping.specs.declared.histories.History.{History}
use Rattle.stepping.specs.Record.{operation_at}
use Rattle.judging.specs.Places.{places_in}

module _ (h : History) (t : ℕ) where
  grown : (n : ℕ) (b : Bool) → eqb (operation_at h n).thread t ≡ b → places_in h t (suc n) ≡ places_in h t n ++ pick b (n ∷ []) []
  unfolding places_in
  grown n b e = rw e

  pub grown_own : (n : ℕ) → (operation_at h n).thread ≡ t → places_in h t (suc n) ≡ places_in h t n ++ (n ∷ [])
  grown_own n e = grown n true (eq-eqb _ _ e)

  pub grown_other : (n : ℕ) → (operation_at h n).thread ≢ t → places_in h t (suc n) ≡ places_in h t n
  grown_other n e = grown n false (ne_eqb _ _ e) ∙ append-nil (places_in h t n)

  pub places_few : (n : ℕ) → length (places_in h t n) ≤ n
  unfolding places_in
  places_few zero = omega arith
  places_few (suc n) = go (eqb (operation_at h n).thread t) (places_few n)
    where
      go : (b : Bool) → length (places_in h t n) ≤ n → length (places_in h t n ++ pick b (n ∷ []) []) ≤ suc n
      go true l = omega (arith, length-append (places_in h t n) (n ∷ []))
      go false l = omega (arith, length-append (places_in h t n) [])

  pub places_below : (n j : ℕ) → j < length (places_in h t n) → get_or (places_in h t n) j 0 < n
  unfolding places_in
  places_below zero j l = absurd (omega arith)
  places_below (suc n) j l = go (eqb (operation_at h n).thread t) (ltb j (length (places_in h t n))) refl l (places_below n j)
    where
      go : (b c : Bool) → ltb j (length (places_in h t n)) ≡ c → j < length (places_in h t n ++ pick b (n ∷ []) [])
          → (j < length (places_in h t n) → get_or (places_in h t n) j 0 < n) → get_or (places_in h t n ++ pick b (n ∷ []) []) j 0 < suc n
      go b true z l f =
          let k = ltb-true j (length (places_in h t n)) z in
          rw (get_or-append (places_in h t n) (pick b (n ∷ []) []) 0 j k) (omega (arith, f k))
      go true false z l f =
          let k : length (places_in h t n) ≡ j = omega (arith, ltb-false j _ z, length-append (places_in h t n) (n ∷ [])) in
          rw (get_or_at (places_in h t n) n [] 0 j k) (omega arith)
      go false false z l f = absurd (omega (arith, ltb-false j _ z, length-append (places_in h t n) []))
