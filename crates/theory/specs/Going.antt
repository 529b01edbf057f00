-- The loop with undo goes as the machine does: what holds before each turn, what each turn keeps, and what is answered where the loop ends.
use Rattle.std.specs.Prelude.{ℕ, ◌-◌, ◌≤◌, ◌≡◌}
use Rattle.theory.specs.Tree.{Tree}
use Rattle.theory.specs.Space.{Space, Step}
use Rattle.theory.specs.Judge.{tree}
use Rattle.theory.specs.Store.{Store, none_stored}
use Rattle.theory.specs.Machine.{State, run, start}
use Rattle.theory.specs.Loop.{pos, stand}
use Rattle.theory.specs.Undoing.{Ground, Undoing, frames, Fine}

module _ {L M : Type 0} (S : Space L) (G : Ground S) (U : Undoing S) (Z : Store (Step S) M) where
  -- where the machine stands in the state st below d levels, at thread t, after n attempts and with the store m
  abbrev pub spot : (ℕ → U.Lv) → ℕ → U.St → ℕ → ℕ → M → State (Step S) M
  spot lv d st t n m = stand S G.size Z (pos (U.node st) t (frames S U lv d st) n m)

  -- the loop's invariant: n attempts are made, at most limit, and the loop stands where the machine comes by n - n0 attempts from the place z
  pub record Going (z : State (Step S) M) (n0 limit : ℕ) (lv : ℕ → U.Lv) (d : ℕ) (st : U.St) (t n : ℕ) (m : M) : Type 0 where
    pub stands : spot lv d st t n m ≡ run Z (n - n0) z
    pub from : n0 ≤ n
    pub within : n ≤ limit
    pub small : t ≤ S.threads
    pub fine : Fine S U lv d st

-- the plain search, from its root
module _ {L : Type 0} (S : Space L) (G : Ground S) (U : Undoing S) where
  -- the tree of the search from a state
  abbrev pub tree_of : U.St → Tree (Step S)
  tree_of root = tree S G.size G.falls (U.node root)

  -- where the search from a state begins
  abbrev pub start_of : U.St → State (Step S) (Unit {0})
  start_of root = start none_stored (tree_of root) tt
