-- Every number from 0 to 4,294,967,295 has a form.
use Rattle.std.specs.Prelude.{ℕ, zero, suc, ◌+◌, ◌*◌, ◌/◌, ◌%◌, ◌^◌, ◌<◌, ◌≤◌, ◌≡◌, refl, Bool, true, false, List, [], ◌∷◌, ltb, length, get_or}
use Rattle.std.proofs.Common.{subst, mul_left_comm, div-lt_iff_lt-mul, zero-lt-suc, arith, ltb-true}
use Rattle.std.proofs.Math.Nat.{pow-succ'}
use Rattle.values.specs.Value.{pick}
use Rattle.numbers.specs.Forms.{sum_of, Form}

-- The shortest form of a number, of so many bytes at most besides the last: its lowest group, and above it the rest.
abbrev pub spelled : ℕ → ℕ → List ℕ
spelled zero n = n ∷ []
spelled (suc more) n = pick (ltb n 128) (n ∷ []) ((n % 128 + 128) ∷ spelled more (n / 128))

-- a group below others
sum_above : (b : ℕ) (s : List ℕ) (k : ℕ) → sum_of (b ∷ s) (suc k) ≡ b % 128 + 128 * sum_of s k
sum_above b s zero = omega arith
sum_above b s (suc k) =
    let g = get_or s k 0 % 128 in
    rw (sum_above b s k, pow-succ' 128 k, mul_left_comm g 128 (128 ^ k)) (omega arith)

form_above : (b : ℕ) (s : List ℕ) (n : ℕ) → 128 ≤ b → Form s n (length s) → length s ≤ 4 → b % 128 + 128 * n < 2 ^ 32
    → Form (b ∷ s) (b % 128 + 128 * n) (suc (length s))
form_above b s n h f l z = record {
  some = omega arith;
  five = omega arith;
  here = omega arith;
  more = more;
  last = last;
  sum = rw (sum_above b s (length s), f.sum) refl;
  small = z;
}
  where
    more : (i : ℕ) → i + 1 < suc (length s) → 128 ≤ get_or (b ∷ s) i 0
    more zero k = h
    more (suc i) k = f.more i (omega arith)

    last : (i : ℕ) → i + 1 ≡ suc (length s) → get_or (b ∷ s) i 0 < 128
    last zero k = absurd (omega (arith, f.some))
    last (suc i) k = f.last i (omega arith)

form_single : (n : ℕ) → n < 128 → Form (n ∷ []) n 1
form_single n h = record {
  some = omega arith;
  five = omega arith;
  here = omega arith;
  more = λ i k. absurd (omega arith);
  last = λ i k. let z : i ≡ 0 = omega arith in rw z h;
  sum = omega arith;
  small = omega arith;
}

spelled_form : (more n : ℕ) → more ≤ 4 → n < 2 ^ 32 → n < 16 * 128 ^ more
    → Form (spelled more n) n (length (spelled more n)) × (length (spelled more n) ≤ more + 1)
spelled_form zero n h z k = (form_single n (omega arith), omega arith)
spelled_form (suc more) n h z k = go (ltb n 128) refl (λ l y r. spelled_form more (n / 128) l y r)
  where
    rest : n / 128 < 16 * 128 ^ more
    rest = let e = pow-succ' 128 more in (div-lt_iff_lt-mul (zero-lt-suc 127)).1 (omega arith)

    go : (b : Bool) → ltb n 128 ≡ b
        → (more ≤ 4 → n / 128 < 2 ^ 32 → n / 128 < 16 * 128 ^ more
        → Form (spelled more (n / 128)) (n / 128) (length (spelled more (n / 128))) × (length (spelled more (n / 128)) ≤ more + 1))
        → Form (pick b (n ∷ []) ((n % 128 + 128) ∷ spelled more (n / 128))) n (length (pick b (n ∷ []) ((n % 128 + 128) ∷ spelled more (n / 128))))
        × (length (pick b (n ∷ []) ((n % 128 + 128) ∷ spelled more (n / 128))) ≤ suc more + 1)
    go true e above = (form_single n (ltb-true n 128 e), omega arith)
    go false e above =
        let r = above (omega arith) (omega arith) rest in
        let q : (n % 128 + 128) % 128 + 128 * (n / 128) ≡ n = omega arith in (
          subst (λ (m : ℕ). Form ((n % 128 + 128) ∷ spelled more (n / 128)) m (suc (length (spelled more (n / 128))))) q
              (form_above (n % 128 + 128) (spelled more (n / 128)) (n / 128) (omega arith) r.0 (omega (arith, r.1)) (omega arith)),
          omega (arith, r.1),
        )

pub every_number : (n : ℕ) → n < 2 ^ 32 → Form (spelled 4 n) n (length (spelled 4 n))
every_number n h = (spelled_form 4 n (omega arith) h (omega arith)).0
