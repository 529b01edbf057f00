-- Values as the bits of a word.
use Rattle.std.specs.Prelude.{ℕ, ◌<◌, ◌^◌, ◌≡◌, refl, Bool, true, false, eqb, ℤ}
use Rattle.std.proofs.Common.{sym, ap, ◌∙◌, arith, eq-eqb, ne_eqb, to_z-of_z}
use Rattle.std.specs.Int.Signed.{mag}
use Rattle.std.specs.Int.{w32}
use mir.Val.{to_z, of_z, hbits, SFits}
use Rattle.values.specs.Value.{eq_z}
use Rattle.values.specs.SameValues.{values}

-- the number of the bits of a number is the number
pub back : (z : ℤ) → mag z < 2 ^ hbits w32 → to_z w32 (of_z w32 z) ≡ z
back z h = to_z-of_z {w = w32} (record { sfits = h })

eq_z_ne : (a b : ℤ) → eq_z a b ≡ false → a ≡ b → ⊥
eq_z_ne a b f q =
    let e : eq_z a b ≡ true = rw q (values.self b) in
    let z : ◌≡◌ {A = ℕ} 0 1 = cc in omega arith

-- the bits are equal exactly where the numbers are
pub eq_z_bits : (a b : ℤ) → SFits w32 a → SFits w32 b → eqb (of_z w32 a) (of_z w32 b) ≡ eq_z a b
eq_z_bits a b ha hb = go (eq_z a b) refl
  where
    go : (t : Bool) → eq_z a b ≡ t → eqb (of_z w32 a) (of_z w32 b) ≡ t
    go true e = eq-eqb _ _ (ap (of_z w32) (values.equal a b e))
    go false e = ne_eqb (of_z w32 a) (of_z w32 b) (λ h. eq_z_ne a b e (sym (to_z-of_z ha) ∙ ap (to_z w32) h ∙ to_z-of_z hb))
