-- The walk of a tree with a store of edges behind which no end lies. With a store that keeps nothing it is the plain walk.
use Rattle.std.specs.Prelude.{ℕ, suc, ◌+◌, Bool, true, false, List, [], ◌∷◌}
use Rattle.std.proofs.Math.Option.{Option, none, some}
use Rattle.theory.specs.Tree.{Tree, done, stuck, turned, placed}

-- whether a store holds an edge, which is then turned away, and the store with one more edge
pub record Store (E M : Type 0) : Type 0 where
  pub known : M → E → Bool
  pub add : E → M → M

-- the store that keeps nothing
abbrev pub none_stored : {E : Type 0} → Store E (Unit {0})
none_stored = record { known = λ m e. false; add = λ e m. m }

-- what a walk comes to: its answer, its attempts, and the store as it leaves it
pub record Found (E M : Type 0) : Type 0 where
  pub way : Option (List E)
  pub tries : ℕ
  pub store : M

abbrev pub found : {E M : Type 0} → Option (List E) → ℕ → M → Found E M
found a n m = record { way = a; tries = n; store = m }

-- one more attempt
abbrev pub once_more : {E M : Type 0} → Found E M → Found E M
once_more x = found x.way (suc x.tries) x.store

module _ {E M : Type 0} (Z : Store E M) where
  -- Behind the edge e the walk came to the answer a, in n attempts and with the store m. If that is no way, e is stored and the rest is tried.
  abbrev pub go_on : E → Option (List E) → ℕ → M → (M → Found E M) → Found E M
  go_on e (some p) n m rest = found (some (e ∷ p)) n m
  go_on e none n m rest = let y = rest (Z.add e m) in found y.way (n + y.tries) y.store

  -- the same, of what the walk came to behind e
  abbrev pub after : E → Found E M → (M → Found E M) → Found E M
  after e x rest = go_on e x.way x.tries x.store rest

  -- an attempt along e: what lies behind e is walked and then the rest, or the rest alone where e is known
  abbrev pub enter : Bool → E → (M → Found E M) → (M → Found E M) → M → Found E M
  enter true e below rest m = rest m
  enter false e below rest m = after e (below m) rest

  -- the walk of a tree that begins with the store m
  abbrev pub walk : Tree E → M → Found E M
  walk done m = found (some []) 0 m
  walk stuck m = found none 0 m
  walk (turned r) m = once_more (walk r m)
  walk (placed e s r) m = once_more (enter (Z.known m e) e (walk s) (walk r) m)
