-- The bound on the attempts: k + k² + … + kⁿ, for k threads with an operation and n operations.
use Rattle.std.specs.Prelude.{ℕ, zero, suc, ◌+◌, ◌≤◌, ◌≡◌, refl, Bool, true, false, List, [], ◌∷◌, length, drop, replicate}
use Rattle.std.proofs.Common.{ap, ◌∙◌, subst, drop_of_length-le, drop-cons, arith}
use Rattle.std.proofs.Math.Option.{Option, none, some}
use Rattle.std.proofs.lemmas.List.{length-replicate}
use Rattle.std.proofs.Math.ListN.{get_elem? as nth}
use Rattle.theory.specs.Tree.{count}
use Rattle.theory.specs.Space.{busy, powers}
use Rattle.theory.proofs.Judge.{search_bound}
use Rattle.history.specs.Object.{Object}
use Rattle.history.specs.Rows.{Entry, Rows, row, operations, has_one, threads_used}
use Rattle.history.specs.Lists.{get_d_same}
use Rattle.history.specs.Space.{next, met, gives, space, size, root}
use Rattle.history.specs.Progress.{next_row}
use Rattle.history.specs.Moves.{falls, stays}
use Rattle.history.specs.Ways.{searched}

module _ (O : Object) where
  -- At the root every operation is unplaced.
  pub size_root : (rows : Rows O) (s : O.State) → size O rows (root O rows s) ≡ operations O rows
  size_root [] s = refl
  size_root (r ∷ rows) s = let h = size_root rows s in omega arith

module _ (O : Object) (rows : Rows O) (s : O.State) where
  next_root : (t : ℕ) → next rows (replicate (length rows) 0) t ≡ nth (row O rows t) 0
  next_root t = next_row rows (replicate (length rows) 0) t (length-replicate (length rows) 0) ∙ rw (get_d_same {A = ℕ} (length rows) t 0)

  -- a thread is busy at the root if it has an operation
  busy_thread : (t m : ℕ) (r : List (Entry O)) → row O rows t ≡ r
      → busy (space O rows) (root O rows s) t (suc m) ≡ has_one O r + busy (space O rows) (root O rows s) (suc t) m
  busy_thread t m [] h = let n : next rows (replicate (length rows) 0) t ≡ none = next_root t ∙ rw h in rw n (omega arith)
  busy_thread t m (e ∷ r) h = go (met e.needs (replicate (length rows) 0)) refl (gives O s e.op e.ret) refl
    where
      n : next rows (replicate (length rows) 0) t ≡ some e
      n = next_root t ∙ rw h

      go : (b : Bool) → met e.needs (replicate (length rows) 0) ≡ b → (g : Option O.Ret) → gives O s e.op e.ret ≡ g
          → busy (space O rows) (root O rows s) t (suc m) ≡ 1 + busy (space O rows) (root O rows s) (suc t) m
      go false p g q = rw (n, p) (omega arith)
      go true p none q = rw (n, p, q) (omega arith)
      go true p (some r) q = rw (n, p, q) (omega arith)

  busy_from : (m t : ℕ) → t + m ≡ length rows → busy (space O rows) (root O rows s) t m ≡ threads_used O (drop t rows)
  busy_from zero t h = rw (drop_of_length-le rows {i = t} (omega arith))
  busy_from (suc m) t h =
      busy_thread t m (row O rows t) refl
      ∙ rw (drop-cons rows t [] (omega arith)) (ap (λ (n : ℕ). has_one O (row O rows t) + n) (busy_from m (suc t) (omega arith)))

  -- At the root the threads with something to place are those with an operation.
  pub busy_root : busy (space O rows) (root O rows s) 0 (length rows) ≡ threads_used O rows
  busy_root = busy_from (length rows) 0 (omega arith)

  -- The search never makes more attempts than that.
  pub attempts_bound : count (searched O rows s) ≤ powers (threads_used O rows) (operations O rows)
  attempts_bound =
      subst (λ (n : ℕ). count (searched O rows s) ≤ powers (threads_used O rows) n) (size_root O rows s)
      (subst (λ (k : ℕ). count (searched O rows s) ≤ powers k (size O rows (root O rows s))) busy_root
      (search_bound (space O rows) (size O rows) (falls O rows) (stays O rows) (root O rows s)))
