-- A budget that is cut into slices: the machine is left after each and goes on with the next, and ends where one run ends.
use Rattle.std.specs.Prelude.{ℕ, ◌+◌, List, [], ◌∷◌}
use Rattle.theory.specs.Store.{Store}
use Rattle.theory.specs.Machine.{State, run}

-- the whole budget
abbrev pub sum : List ℕ → ℕ
sum [] = 0
sum (b ∷ bs) = b + sum bs

module _ {E M : Type 0} (Z : Store E M) where
  -- one run after the other
  abbrev pub slices : List ℕ → State E M → State E M
  slices [] x = x
  slices (b ∷ bs) x = slices bs (run Z b x)
