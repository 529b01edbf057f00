-- "Padding with zero groups is accepted": a form of fewer than five bytes, with the top bit of its last byte set and a byte of zero behind it, is a
-- form of the same number.
use Rattle.std.specs.Prelude.{ℕ, suc, ◌+◌, ◌%◌, ◌^◌, ◌<◌, ◌≤◌, ◌≡◌, refl, Bool, true, false, List, [], ◌∷◌, ◌++◌, ltb, length, get_or}
use Rattle.std.proofs.Common.{sym, ◌∙◌, add-zero, zero-mul, add-one, arith, ltb-true, ltb-false, length-append, get_or-append-add}
use Rattle.std.proofs.Math.ListN.{get_or-append}
use Rattle.std.proofs.Math.Seq.{get_or-append_seam}
use Rattle.numbers.specs.Forms.{sum_of, Form}
use Rattle.numbers.specs.NumberExactly.{sum_append}

module _ (s : List ℕ) (b n : ℕ) (f : Form (s ++ b ∷ []) n (length s + 1)) (h : length s + 2 ≤ 5) where
  abbrev bytes : List ℕ
  bytes = s ++ (b + 128) ∷ 0 ∷ []

  before : (i : ℕ) → i < length s → get_or bytes i 0 ≡ get_or (s ++ b ∷ []) i 0
  before i k = get_or-append s ((b + 128) ∷ 0 ∷ []) 0 i k ∙ sym (get_or-append s (b ∷ []) 0 i k)

  -- the byte that was the last, and the zero behind it

  seam : get_or bytes (length s) 0 ≡ b + 128
  seam = get_or-append_seam s (b + 128) (0 ∷ []) 0

  behind : get_or bytes (suc (length s)) 0 ≡ 0
  behind = rw (add-one (length s)) at (get_or-append-add s ((b + 128) ∷ 0 ∷ []) 1 0)

  more : (i : ℕ) → i + 1 < suc (suc (length s)) → 128 ≤ get_or bytes i 0
  more i k = go (ltb i (length s)) refl
    where
      go : (t : Bool) → ltb i (length s) ≡ t → 128 ≤ get_or bytes i 0
      go true e = let l = ltb-true i (length s) e in rw (before i l) (f.more i (omega arith))
      go false e = let q : i ≡ length s = omega (arith, ltb-false i (length s) e) in rw (q, seam) (omega arith)

  sum : sum_of bytes (suc (suc (length s))) ≡ n
  sum =
      let e : sum_of (s ++ b ∷ []) (suc (length s)) ≡ n = rw (add-one (length s)) at f.sum in
      let g : (b + 128) % 128 ≡ b % 128 = omega arith in
      let u = get_or-append_seam s b [] 0 in
      rw (behind, seam, g, sum_append s ((b + 128) ∷ 0 ∷ []) (length s) (omega arith), zero-mul (128 ^ suc (length s)), add-zero)
      (rw (u, sum_append s (b ∷ []) (length s) (omega arith)) at e)

  last : (i : ℕ) → i + 1 ≡ suc (suc (length s)) → get_or bytes i 0 < 128
  last i k = let q : i ≡ suc (length s) = omega arith in rw (q, behind) (omega arith)

  pub padded : Form bytes n (suc (suc (length s)))
  padded = record {
    some = omega arith;
    five = omega arith;
    here = omega (arith, length-append s ((b + 128) ∷ 0 ∷ []));
    more = more;
    last = last;
    sum = sum;
    small = f.small;
  }
