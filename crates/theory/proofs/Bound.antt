-- A bound on the attempts of a search: k + k² + … + kⁿ, where k threads have something left to place and the tree is n steps deep.
use Rattle.std.specs.Prelude.{ℕ, zero, suc, ◌*◌, ◌≤◌, ◌≡◌, refl, Bool, true, false, cond, List}
use Rattle.std.proofs.Math.Option.{Option, none, some}
use Rattle.std.proofs.Common.{pow-suc, mul-le-mul_right, le_trans, arith}
use Rattle.std.proofs.Math.Nat.{pow-zero}
use Rattle.theory.specs.Tree.{Tree, done, stuck, answer, count, unless}
use Rattle.theory.specs.Space.{Move, idle, refused, place, Space, Step, branch, row, point, grow, tick, busy, powers, Stays}

powers_suc : (w n : ℕ) → powers w (suc n) ≡ w * suc (powers w n)
powers_suc w zero = omega (arith, rw pow-zero at (pow-suc w 0))
powers_suc w (suc n) = omega (arith, powers_suc w n, pow-suc w (suc n))

unless_most : {E : Type 0} (a : Option (List E)) (n : ℕ) → unless a n ≤ n
unless_most (some p) n = omega arith
unless_most none n = omega arith

module _ {L : Type 0} (S : Space L) where
  -- where no point below takes more than g attempts, each busy thread takes at most g + 1

  branch_count : (below : S.Node → Tree (Step S)) (g k t : ℕ) (v : Move L S.Node) (r : Tree (Step S))
      → ((l : L) (y : S.Node) → v ≡ place l y → count (below y) ≤ g) → count r ≤ k * suc g
      → count (branch S below t v r) ≤ tick S v k * suc g
  branch_count below g k t idle r f h = h
  branch_count below g k t refused r f h = omega arith
  branch_count below g k t (place l y) r f h = omega (arith, f l y refl, unless_most (answer (below y)) (count r))

  row_count : (below : S.Node → Tree (Step S)) (g : ℕ) (x : S.Node)
      → ((t : ℕ) (l : L) (y : S.Node) → S.move x t ≡ place l y → count (below y) ≤ g)
      → (t m : ℕ) → count (row S below x t m) ≤ busy S x t m * suc g
  row_count below g x f t zero = omega arith
  row_count below g x f t (suc m) =
      branch_count below g (busy S x (suc t) m) t (S.move x t) (row S below x (suc t) m) (f t) (row_count below g x f (suc t) m)

  -- a step makes no thread busy

  tick_most : (v : Move L S.Node) (n : ℕ) → tick S v n ≤ suc n
  tick_most idle n = omega arith
  tick_most refused n = omega arith
  tick_most (place l y) n = omega arith

  tick_le : (v w : Move L S.Node) (m n : ℕ) → (v ≡ idle → w ≡ idle) → m ≤ n → tick S w m ≤ tick S v n
  tick_le idle w m n f h = rw (f refl) h
  tick_le refused w m n f h = omega (arith, tick_most w m)
  tick_le (place l y) w m n f h = omega (arith, tick_most w m)

  busy_le : (x y : S.Node) → ((u : ℕ) → S.move x u ≡ idle → S.move y u ≡ idle) → (t m : ℕ) → busy S y t m ≤ busy S x t m
  busy_le x y f t zero = omega arith
  busy_le x y f t (suc m) = tick_le (S.move x t) (S.move y t) _ _ (f t) (busy_le x y f (suc t) m)

  last_count : (b : Bool) → count {E = Step S} (cond b done stuck) ≤ 0
  last_count true = omega arith
  last_count false = omega arith

  point_count : (below : S.Node → Tree (Step S)) (x : S.Node) (n : ℕ) (b : Bool)
      → count (row S below x 0 S.threads) ≤ n → count (point S below x b) ≤ n
  point_count below x n true h = omega arith
  point_count below x n false h = h

  pub grow_count : Stays S → (k n : ℕ) (x : S.Node) → busy S x 0 S.threads ≤ k → count (grow S n x) ≤ powers k n
  grow_count s k zero x h = last_count (S.finished x)
  grow_count s k (suc n) x h =
      let m = S.threads in
      let a = row_count (grow S n) (powers k n) x (λ t l y e. grow_count s k n y (le_trans (busy_le x y (s x y t l e) 0 m) h)) 0 m in
      let b = mul-le-mul_right (suc (powers k n)) h in
      point_count (grow S n) x (powers k (suc n)) (S.finished x) (omega (arith, powers_suc k n))
