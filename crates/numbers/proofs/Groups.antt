-- Groups joined by shifts, and numbers read byte by byte.
use Rattle.std.proofs.Common.{ℕ, zero, suc, ◌+◌, ◌*◌, ◌%◌, ◌^◌, ◌<◌, ◌≤◌, ◌≡◌, refl, true, false, List, add-one, arith, mod-eq_of_lt, lt-ltb, le-ltb, bit_or, length, drop, drop-cons}
use Rattle.std.specs.Int.Bits.{or_shifted_r}
use Rattle.std.proofs.Math.ListN.{get_or}
use Rattle.numbers.specs.declared.refusal.Refusal.TheVariants.{TooBig}
use Rattle.numbers.specs.Reader.{got, refused}
use Rattle.numbers.specs.Number.{too_big, number_from}

-- a shift by seven bits i times is a product by 128 ^ i
sevens : (i : ℕ) → i ≤ 4 → 2 ^ (7 * i) ≡ 128 ^ i
sevens zero h = refl
sevens (suc zero) h = refl
sevens (suc (suc zero)) h = refl
sevens (suc (suc (suc zero))) h = refl
sevens (suc (suc (suc (suc zero)))) h = refl
sevens (suc (suc (suc (suc (suc i))))) h = absurd (omega arith)

-- the group lies above what is there
pub joined : (v g i : ℕ) → v < 128 ^ i → g * 128 ^ i < 4294967296 → i ≤ 4 → bit_or v (g * 2 ^ (7 * i) % 4294967296) ≡ v + g * 128 ^ i
joined v g i a b h =
    let e = sevens i h in
    let a2 : v < 2 ^ (7 * i) = rw e a in
    let b2 : g * 2 ^ (7 * i) < 4294967296 = rw e b in
    rw (mod-eq_of_lt b2, or_shifted_r g (7 * i) v a2, e) (omega arith)

-- one byte more
module _ (s : List ℕ) (i v : ℕ) (h : i < length s) where
  pub read_big : too_big i (get_or s i 0) ≡ true → number_from (drop i s) i v ≡ refused TooBig
  unfolding number_from
  read_big e = rw (drop-cons s i 0 h, e) refl

  pub read_last : too_big i (get_or s i 0) ≡ false → get_or s i 0 < 128 → number_from (drop i s) i v ≡ got (v + get_or s i 0 % 128 * 128 ^ i) (i + 1)
  unfolding number_from
  read_last e l = rw (drop-cons s i 0 h, e, lt-ltb _ _ l) refl

  pub read_more : too_big i (get_or s i 0) ≡ false → 128 ≤ get_or s i 0
      → number_from (drop i s) i v ≡ number_from (drop (i + 1) s) (i + 1) (v + get_or s i 0 % 128 * 128 ^ i)
  unfolding number_from
  read_more e l = rw (drop-cons s i 0 h, e, le-ltb _ _ l, add-one i) refl
