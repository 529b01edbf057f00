-- Signed values and their bits.
use Rattle.std.proofs.Common.{ℕ, zero, suc, ◌/◌, ◌<◌, ◌≡◌, refl, ap, arith, zero-add, pos, negsuc, ◌-ℤ◌, w32, to_z, SFits}
use mir.ValLaws.{to_z_pos}

-- half of a number

below_zero : (k : ℕ) → negsuc 0 -ℤ pos k ≡ negsuc k
below_zero zero = refl
below_zero (suc m) = ap negsuc (ap suc (zero-add m))

module _ (n : ℕ) (h : n < 4294967296) where
  pub half_pos : to_z w32 (n / 2) ≡ pos (n / 2)
  half_pos = to_z_pos w32 (n / 2) (omega arith)

  pub half_less : negsuc 0 -ℤ to_z w32 (n / 2) ≡ negsuc (n / 2)
  half_less = rw half_pos (below_zero (n / 2))

  pub half_fits : SFits w32 (negsuc 0 -ℤ to_z w32 (n / 2))
  half_fits = rw half_less (record { sfits = omega arith })
