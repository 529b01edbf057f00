-- What is answered under a budget of attempts.
use Rattle.std.specs.Prelude.{ℕ, cond, List, leb}
use Rattle.std.proofs.Math.Option.{Option, none, some}
use Rattle.theory.specs.Tree.{Tree, answer, count}

-- a way was found; there is none; or the budget did not cover the search
pub data Verdict (E : Type 0) : Type 0 where
  order : List E → Verdict E
  no_order undecided : Verdict E

-- a verdict, and the attempts that were made for it
pub record Judged (E : Type 0) : Type 0 where
  pub verdict : Verdict E
  pub attempts : ℕ

module _ {E : Type 0} where
  -- the verdict on a whole search, by its answer
  abbrev pub told : Option (List E) → Verdict E
  told (some p) = order p
  told none = no_order

  -- a search that came to the answer a in n attempts
  abbrev pub whole : Option (List E) → ℕ → Judged E
  whole a n = record { verdict = told a; attempts = n }

  -- a search that was broken off after all b attempts of its budget
  abbrev pub broken : ℕ → Judged E
  broken b = record { verdict = undecided; attempts = b }

  -- a search that comes to the answer a in n attempts, under the budget b
  abbrev pub cut : ℕ → Option (List E) → ℕ → Judged E
  cut b a n = cond (leb n b) (whole a n) (broken b)

  -- the walk of a tree under the budget b
  abbrev pub judge : ℕ → Tree E → Judged E
  judge b s = cut b (answer s) (count s)
