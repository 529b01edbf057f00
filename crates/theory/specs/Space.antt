-- A space: situations that numbered threads lead on, step by step, to an end. Its ways to an end, and the tree that a search of it walks.
use Rattle.std.specs.Prelude.{ℕ, zero, suc, ◌+◌, ◌^◌, ◌<◌, ◌≡◌, Bool, true, false, cond, List, [], ◌∷◌}
use Rattle.theory.specs.Tree.{Tree, done, stuck, turned, placed}

-- What a thread can do in a situation. idle: nothing, it has nothing left to place. refused: what it has next is turned away here.
-- place l y: what it has next is placed, as l tells, and that leads to y.
pub data Move (L N : Type 0) : Type 0 where
  idle refused : Move L N
  place : L → N → Move L N

-- the situations, the number of threads, which situations are ends, and what each thread can do
pub record Space (L : Type 0) : Type 1 where
  pub Node : Type 0
  pub threads : ℕ
  pub finished : Node → Bool
  pub move : Node → ℕ → Move L Node

-- a step: the thread that makes it, what it tells, and the situation that it leads to
pub record Edge (L N : Type 0) : Type 0 where
  pub thread : ℕ
  pub label : L
  pub to : N

-- w + w² + … + wⁿ
abbrev pub powers : ℕ → ℕ → ℕ
powers w zero = 0
powers w (suc n) = powers w n + w ^ suc n

module _ {L : Type 0} (S : Space L) where
  abbrev pub Step : Type 0
  Step = Edge L S.Node

  -- steps that lead from a situation to an end, with no end before it
  pub data Leads : S.Node → List Step → Type 0 where
    ends : {x : S.Node} → S.finished x ≡ true → Leads x []
    goes : {x y : S.Node} {l : L} {t : ℕ} {p : List Step} → S.finished x ≡ false → t < S.threads → S.move x t ≡ place l y
        → Leads y p → Leads x (record { thread = t; label = l; to = y } ∷ p)

  -- the attempt of thread t, by what it can do, and then r; an idle thread makes no attempt
  abbrev pub branch : (S.Node → Tree Step) → ℕ → Move L S.Node → Tree Step → Tree Step
  branch below t idle r = r
  branch below t refused r = turned r
  branch below t (place l y) r = placed (record { thread = t; label = l; to = y }) (below y) r

  -- the attempts of the m threads from t on, upwards
  abbrev pub row : (S.Node → Tree Step) → S.Node → ℕ → ℕ → Tree Step
  row below x t zero = stuck
  row below x t (suc m) = branch below t (S.move x t) (row below x (suc t) m)

  -- an end, or the attempts of all threads
  abbrev pub point : (S.Node → Tree Step) → S.Node → Bool → Tree Step
  point below x true = done
  point below x false = row below x 0 S.threads

  -- the search tree from a situation on, down to n steps
  abbrev pub grow : ℕ → S.Node → Tree Step
  grow zero x = cond (S.finished x) done stuck
  grow (suc n) x = point (grow n) x (S.finished x)

  -- one more than n, unless the thread is idle
  abbrev pub tick : Move L S.Node → ℕ → ℕ
  tick idle n = n
  tick refused n = suc n
  tick (place l y) n = suc n

  -- how many of the m threads from t on have something left to place
  abbrev pub busy : S.Node → ℕ → ℕ → ℕ
  busy x t zero = 0
  busy x t (suc m) = tick (S.move x t) (busy x (suc t) m)

  -- each step makes the size one less
  abbrev pub Falls : (S.Node → ℕ) → Type 0
  Falls size = (x y : S.Node) (t : ℕ) (l : L) → S.move x t ≡ place l y → size x ≡ suc (size y)

  -- a thread that has nothing left gets nothing new
  abbrev pub Stays : Type 0
  Stays = (x y : S.Node) (t : ℕ) (l : L) → S.move x t ≡ place l y → (u : ℕ) → S.move x u ≡ idle → S.move y u ≡ idle
