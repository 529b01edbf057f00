-- The number that a value is sent as says the value, and the other way round.
use Rattle.std.specs.Prelude.{ℕ, ◌+◌, ◌*◌, ◌/◌, ◌%◌, ◌≡◌, refl, Bool, true, false, eqb, ℤ, pos, negsuc}
use Rattle.std.proofs.Common.{arith, eq-eqb, eqb-true}
use Rattle.std.proofs.lemmas.Bool.{eqb-false}
use Rattle.values.specs.Value.{pick, zigzag, signed}

-- the number that a value is sent as says that value
pub sent_back : (v : ℤ) → signed (zigzag v) ≡ v
unfolding signed zigzag
sent_back (pos n) =
    let e : 2 * n % 2 ≡ 0 = omega arith in
    let h : 2 * n / 2 ≡ n = omega arith in
    rw (eq-eqb _ _ e, h) refl
sent_back (negsuc n) =
    let d : (2 * n + 1) % 2 ≡ 1 = omega arith in
    let h : (2 * n + 1) / 2 ≡ n = omega arith in
    rw (d, h) refl

-- and the value of a number is sent as that number
pub number_back : (n : ℕ) → zigzag (signed n) ≡ n
unfolding signed zigzag
number_back n = go (eqb (n % 2) 0) refl
  where
    go : (b : Bool) → eqb (n % 2) 0 ≡ b → zigzag (pick b (pos (n / 2)) (negsuc (n / 2))) ≡ n
    go true e = omega (arith, eqb-true (n % 2) 0 e)
    go false e = omega (arith, eqb-false (n % 2) 0 e)
