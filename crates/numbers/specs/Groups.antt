-- Groups of seven bits: what fits above what.
use Rattle.std.specs.Prelude.{ℕ, zero, suc, ◌+◌, ◌*◌, ◌%◌, ◌^◌, ◌<◌, ◌≤◌, ◌≡◌, refl, true, false}
use Rattle.std.proofs.Common.{add-one, arith, ltb-true, ltb-false}
use Rattle.std.proofs.Math.Nat.{pow-succ'}
use Rattle.std.proofs.Math.Arith.{digits_lt}
use Rattle.numbers.specs.Number.{too_big}

-- a group that is not too big fits above four others at most
pub group_fits : (i b v : ℕ) → i ≤ 4 → too_big i b ≡ false → v < 128 ^ i → v + b % 128 * 128 ^ i < 2 ^ 32
unfolding too_big
group_fits zero b v h t l = omega arith
group_fits (suc zero) b v h t l = omega arith
group_fits (suc (suc zero)) b v h t l = omega arith
group_fits (suc (suc (suc zero))) b v h t l = omega arith
group_fits (suc (suc (suc (suc zero)))) b v h t l = omega (arith, ltb-false 15 b t)
group_fits (suc (suc (suc (suc (suc i))))) b v h t l = absurd (omega arith)

-- a fifth byte with the top bit set is too big
pub goes_on : (i b : ℕ) → i ≤ 4 → too_big i b ≡ false → 128 ≤ b → i + 1 ≤ 4
unfolding too_big
goes_on zero b h t l = omega arith
goes_on (suc zero) b h t l = omega arith
goes_on (suc (suc zero)) b h t l = omega arith
goes_on (suc (suc (suc zero))) b h t l = omega arith
goes_on (suc (suc (suc (suc zero)))) b h t l = omega (arith, ltb-false 15 b t)
goes_on (suc (suc (suc (suc (suc i))))) b h t l = absurd (omega arith)

-- what is too big is a fifth byte above 15
pub is_fifth : (i b : ℕ) → i ≤ 4 → too_big i b ≡ true → (i ≡ 4) × (15 < b)
unfolding too_big
is_fifth zero b h t = let z : ◌≡◌ {A = ℕ} 0 1 = cc in absurd (omega arith)
is_fifth (suc zero) b h t = let z : ◌≡◌ {A = ℕ} 0 1 = cc in absurd (omega arith)
is_fifth (suc (suc zero)) b h t = let z : ◌≡◌ {A = ℕ} 0 1 = cc in absurd (omega arith)
is_fifth (suc (suc (suc zero))) b h t = let z : ◌≡◌ {A = ℕ} 0 1 = cc in absurd (omega arith)
is_fifth (suc (suc (suc (suc zero)))) b h t = (refl, ltb-true 15 b t)
is_fifth (suc (suc (suc (suc (suc i))))) b h t = absurd (omega arith)

-- a group above i others
pub sum_lt : (v g i : ℕ) → v < 128 ^ i → g < 128 → v + g * 128 ^ i < 128 ^ (i + 1)
sum_lt v g i a h =
    let d : g * 128 ^ i + v < 128 * 128 ^ i = digits_lt h a in
    rw (add-one, pow-succ' 128 i) (omega arith)
