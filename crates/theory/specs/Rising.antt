-- The search tree of a space tries the threads upwards at each point.
use Rattle.std.specs.Prelude.{ℕ, zero, suc, ◌≤◌, refl, Bool, true, false, cond}
use Rattle.std.proofs.Common.{inl, inr, arith}
use Rattle.theory.specs.Tree.{Tree, done, stuck}
use Rattle.theory.specs.Least.{Rises, Ranked}
use Rattle.theory.specs.Space.{Move, idle, refused, place, Space, Step, branch, row, point, grow}

module _ {L : Type 0} (S : Space L) where
  -- steps are ranked by their threads
  abbrev pub by_thread : Step S → ℕ
  by_thread e = e.thread

  module _ (below : S.Node → Tree (Step S)) (ranked : (y : S.Node) → Ranked by_thread (below y)) where
    branch_rises : (t b : ℕ) (v : Move L S.Node) (r : Tree (Step S)) → b ≤ t
        → ((c : ℕ) → c ≤ suc t → Rises by_thread c r) → Rises by_thread b (branch S below t v r)
    branch_rises t b idle r h g = g b (omega arith)
    branch_rises t b refused r h g = g b (omega arith)
    branch_rises t b (place l y) r h g = (h, ranked y, g (suc t) (omega arith))

    row_rises : (x : S.Node) (t m b : ℕ) → b ≤ t → Rises by_thread b (row S below x t m)
    row_rises x t zero b h = tt
    row_rises x t (suc m) b h =
        branch_rises t b (S.move x t) (row S below x (suc t) m) h (λ c k. row_rises x (suc t) m c k)

    point_ranked : (x : S.Node) (b : Bool) → Ranked by_thread (point S below x b)
    point_ranked x true = inl refl
    point_ranked x false = inr (row_rises x 0 S.threads 0 (omega arith))

  last_ranked : (b : Bool) → Ranked by_thread (cond b done stuck)
  last_ranked true = inl refl
  last_ranked false = inr tt

  pub grow_ranked : (n : ℕ) (x : S.Node) → Ranked by_thread (grow S n x)
  grow_ranked zero x = last_ranked (S.finished x)
  grow_ranked (suc n) x = point_ranked (grow S n) (grow_ranked n) x (S.finished x)
