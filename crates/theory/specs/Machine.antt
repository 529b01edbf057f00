-- The walk as a machine that makes one attempt at a time and can be left after any of them: where it stands, and what it answers there.
use Rattle.std.specs.Prelude.{ℕ, zero, suc, cond, List, [], ◌∷◌}
use Rattle.theory.specs.Tree.{Tree, done, stuck, turned, placed}
use Rattle.theory.specs.Budget.{Verdict, order, no_order, undecided, Judged}
use Rattle.theory.specs.Store.{Store}

-- a level that the machine left downwards: the edge that it took there, and what is left to try there
pub record Level (E : Type 0) : Type 0 where
  pub edge : E
  pub rest : Tree E

-- what is left to try here, the levels above from the nearest up, the attempts made, and the store
pub record State (E M : Type 0) : Type 0 where
  pub here : Tree E
  pub above : List (Level E)
  pub made : ℕ
  pub store : M

abbrev pub state : {E M : Type 0} → Tree E → List (Level E) → ℕ → M → State E M
state s ls n m = record { here = s; above = ls; made = n; store = m }

-- the edges taken, from the root on, and then p
abbrev pub trail : {E : Type 0} → List (Level E) → List E → List E
trail [] p = p
trail (l ∷ ls) p = trail ls (l.edge ∷ p)

-- what is answered at a point: an order where an end is reached, no order where nothing is left
abbrev pub standing : {E : Type 0} → Tree E → List (Level E) → Verdict E
standing done ls = order (trail ls [])
standing stuck ls = no_order
standing (turned r) ls = undecided
standing (placed e s r) ls = undecided

module _ {E M : Type 0} (Z : Store E M) where
  -- up to the nearest level at which something is left to try; the edges that are given up on the way are stored
  abbrev pub settle : List (Level E) → Tree E → ℕ → M → State E M
  settle [] s n m = state s [] n m
  settle (l ∷ ls) done n m = state done (l ∷ ls) n m
  settle (l ∷ ls) stuck n m = settle ls l.rest n (Z.add l.edge m)
  settle (l ∷ ls) (turned r) n m = state (turned r) (l ∷ ls) n m
  settle (l ∷ ls) (placed e s r) n m = state (placed e s r) (l ∷ ls) n m

  -- one attempt, and up from where nothing is left; an ended search stays as it is
  abbrev pub try : Tree E → List (Level E) → ℕ → M → State E M
  try done ls n m = state done ls n m
  try stuck ls n m = state stuck ls n m
  try (turned r) ls n m = settle ls r (suc n) m
  try (placed e s r) ls n m = cond (Z.known m e) (settle ls r (suc n) m) (settle (record { edge = e; rest = r } ∷ ls) s (suc n) m)

  abbrev pub attempt : State E M → State E M
  attempt x = try x.here x.above x.made x.store

  -- b attempts, or fewer if the search ends before
  abbrev pub run : ℕ → State E M → State E M
  run zero x = x
  run (suc b) x = run b (attempt x)

  abbrev pub start : Tree E → M → State E M
  start s m = state s [] 0 m

  abbrev pub outcome : State E M → Judged E
  outcome x = record { verdict = standing x.here x.above; attempts = x.made }
