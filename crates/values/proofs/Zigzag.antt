-- A value below zero, from -1 downwards.
use Rattle.std.proofs.Common.{ℕ, suc, ◌+◌, ◌-◌, ◌*◌, ◌≡◌, ap, ◌∙◌, Bool, true, false, cond, arith, ltb-true, le-ltb, ℤ, pos, negsuc, ◌-ℤ◌, w32, SFits}
use Rattle.std.proofs.Math.IntN.{nat_abs}
use Rattle.std.specs.Int.Signed.{lt_z}
use Rattle.values.specs.Value.{zigzag}

less : (n : ℕ) → negsuc 0 -ℤ negsuc n ≡ pos n
less n = ap (λ (b : Bool). cond b (negsuc (1 - suc (suc n))) (pos (suc n - 1))) (le-ltb (suc n) 1 (omega arith)) ∙ ap pos (omega arith)

pub below_fits : (v : ℤ) → SFits w32 v → lt_z v (pos 0) ≡ true → SFits w32 (negsuc 0 -ℤ v)
below_fits (pos n) f h = absurd (let z = ltb-true n 0 h in omega arith)
below_fits (negsuc n) f h = rw (less n) (record { sfits = f.sfits })

pub word_below : (v : ℤ) → lt_z v (pos 0) ≡ true → nat_abs (negsuc 0 -ℤ v) * 2 + 1 ≡ zigzag v
unfolding zigzag
word_below (pos n) h = absurd (let z = ltb-true n 0 h in omega arith)
word_below (negsuc n) h = rw (less n) (omega arith)

pub word : (v : ℤ) → lt_z v (pos 0) ≡ false → nat_abs v * 2 ≡ zigzag v
unfolding zigzag
word (pos n) h = omega arith
word (negsuc n) h = absurd (cc)
