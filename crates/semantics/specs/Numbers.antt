-- The numbers of document 01 that a bare call gives, and their order.
use Rattle.std.specs.Prelude.{ℕ, ◌≡◌, ◌↔◌, ◌⊎◌, Bool, Result, Ok, Err}
use Rattle.values.specs.Checks.{number_of}
use Rattle.values.specs.declared.refusal.Refusal.{Refusal}
use Rattle.families.specs.declared.Ret.{Ret}

-- The number of an answer; 0 where nothing is refused.

abbrev pub answer_number : Result Ret Refusal → ℕ
answer_number (Ok ret) = 0
answer_number (Err r) = number_of r

abbrev pub said_number : Result Bool Refusal → ℕ
said_number (Ok b) = 0
said_number (Err r) = number_of r

-- For a bare step the order is 9, 3, 7: each line says that none before it applies.
pub record Numbered (n : ℕ) (deep other full : Type 0) : Type 0 where
  pub nine : n ≡ 9 ↔ deep
  pub three : n ≡ 3 ↔ (¬ deep) × other
  pub seven : n ≡ 7 ↔ (¬ deep) × (¬ other) × full
  pub none : n ≡ 0 ↔ (¬ deep) × (¬ other) × (¬ full)
  pub only : (n ≡ 9) ⊎ (n ≡ 3) ⊎ (n ≡ 7) ⊎ (n ≡ 0)
