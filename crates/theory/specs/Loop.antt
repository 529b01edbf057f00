-- The machine as a loop over situations: where it stands, with the next thread to try there and the steps that led there.
use Rattle.std.specs.Prelude.{ℕ, suc, ◌-◌, pred, cond, List, [], ◌∷◌}
use Rattle.theory.specs.Tree.{Tree, done}
use Rattle.theory.specs.Space.{Space, Step, row, grow}
use Rattle.theory.specs.Store.{Store}
use Rattle.theory.specs.Machine.{Level, State, settle}

-- a step that was taken: its thread, what it tells, and the situation before it
pub record Frame (L N : Type 0) : Type 0 where
  pub thread : ℕ
  pub label : L
  pub before : N

-- the situation, the next thread to try there, the steps that led there from the last up, the attempts made, and the store
pub record Pos (L N M : Type 0) : Type 0 where
  pub node : N
  pub next : ℕ
  pub stack : List (Frame L N)
  pub made : ℕ
  pub store : M

abbrev pub pos : {L N M : Type 0} → N → ℕ → List (Frame L N) → ℕ → M → Pos L N M
pos x t fs n m = record { node = x; next = t; stack = fs; made = n; store = m }

-- the step of a frame, where it led to y
abbrev pub edge_of : {L : Type 0} (S : Space L) → Frame L S.Node → S.Node → Step S
edge_of S f y = record { thread = f.thread; label = f.label; to = y }

module _ {L : Type 0} (S : Space L) (size : S.Node → ℕ) where
  -- what is left to try in x, from thread t on
  abbrev pub here : S.Node → ℕ → Tree (Step S)
  here x t = cond (S.finished x) done (row S (grow S (pred (size x))) x t (S.threads - t))

  -- the levels above y: the steps that led to y, and what is left to try before each, from the thread after its own on
  abbrev pub levels : S.Node → List (Frame L S.Node) → List (Level (Step S))
  levels y [] = []
  levels y (f ∷ fs) = record { edge = edge_of S f y; rest = here f.before (suc f.thread) } ∷ levels f.before fs

module _ {L M : Type 0} (S : Space L) (size : S.Node → ℕ) (Z : Store (Step S) M) where
  -- where the machine stands
  abbrev pub stand : Pos L S.Node M → State (Step S) M
  stand p = settle Z (levels S size p.node p.stack) (here S size p.node p.next) p.made p.store
