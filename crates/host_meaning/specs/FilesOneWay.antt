-- When a verdict byte is red.
use Rattle.std.specs.Prelude.{ℕ, ◌≡◌, ◌⊎◌}

-- Red: No order, or Invalid.
abbrev pub Red : ℕ → Type 0
Red verdict = (verdict ≡ 1) ⊎ (verdict ≡ 3)
