-- Bytes that are the same are equal.
use Rattle.std.specs.List.{starts_with}
use Rattle.std.specs.Prelude.{ℕ, ◌≡◌, refl, Bool, true, false, List, [], ◌∷◌, eqb, length, take}
use Rattle.std.proofs.Common.{sym, arith, eqb-true, eq-eqb}
use Rattle.std.proofs.lemmas.Bool.Decides.{Decides-eqb}
use Rattle.std.proofs.lemmas.Slice.Eq.{slice_eq-Decides}
use Rattle.values.specs.Value.{pick}
use Rattle.format.specs.Format.{opening, same_bytes, opens}

same_refl : (s : List ℕ) → same_bytes s s ≡ true
unfolding same_bytes
same_refl [] = refl
same_refl (b ∷ s) = rw (eq-eqb b b refl) (same_refl s)

pub same_true : (s t : List ℕ) → same_bytes s t ≡ true → s ≡ t
unfolding same_bytes
same_true [] [] e = refl
same_true [] (b ∷ t) e = let z : ◌≡◌ {A = ℕ} 0 1 = cc in absurd (omega arith)
same_true (a ∷ s) [] e = let z : ◌≡◌ {A = ℕ} 0 1 = cc in absurd (omega arith)
same_true (a ∷ s) (b ∷ t) e = go (eqb a b) refl e (λ h. same_true s t h)
  where
    go : (x : Bool) → eqb a b ≡ x → pick x (same_bytes s t) false ≡ true → (same_bytes s t ≡ true → s ≡ t) → a ∷ s ≡ b ∷ t
    go true q h rest = let p = eqb-true a b q in let r = rest h in cc
    go false q h rest = let z : ◌≡◌ {A = ℕ} 0 1 = cc in absurd (omega arith)

-- a test that is true exactly if the file opens with those bytes
pub said_same : (s : List ℕ) (r : Bool) → (r ≡ true → take (length opening) s ≡ opening)
    → (take (length opening) s ≡ opening → r ≡ true) → r ≡ opens s
unfolding opens
said_same s true h k = rw (h refl) (sym (same_refl opening))
said_same s false h k = go (same_bytes (take (length opening) s) opening) refl
  where
    go : (x : Bool) → same_bytes (take (length opening) s) opening ≡ x → false ≡ x
    go true e = k (same_true (take (length opening) s) opening e)
    go false e = refl

-- the library's test
pub said_opens : (s : List ℕ) (r : Bool) → r ≡ starts_with eqb s opening → r ≡ opens s
said_opens s r e =
    let d = slice_eq-Decides Decides-eqb opening (take (length opening) s) r e in
    said_same s r (λ t. sym (d.0 t)) (λ t. d.1 (sym t))
