-- How many completed operations are still to be placed: none exactly if the search has finished, and placing one makes it one less.
use Prim.Native.Nat.{ℕ, zero, suc, ◌+◌, ◌-◌}
use Rattle.std.specs.Prelude.{◌≡◌, ◌≢◌, Bool, true, cond, ◌&&◌, length, drop}
use Rattle.std.proofs.Math.Path.{refl}
use Rattle.std.proofs.Math.Bool.{false}
use Rattle.std.proofs.Math.Option.{Option, none, some}
use mathlib.Core.List.{List, [], ◌∷◌}
use Rattle.std.proofs.Math.ListN.{get_elem? as nth}
use Rattle.std.proofs.Common.{arith}
use Rattle.theory.specs.Space.{idle}
use Rattle.history.specs.Object.{Object}
use Rattle.history.specs.Rows.{Entry, Rows}
use Rattle.history.specs.Recorder.{pending, completed}
use Rattle.history.specs.Lists.{not_some}
use Rattle.history.specs.Space.{Node, next, more, unplaced, only_pending, all_placed, space, size}
use Rattle.history.specs.Left.{one_of, left}

-- where every operation is placed, no thread has a next one

nth_spent : {A : Type 0} (r : List A) (p : ℕ) → length r - p ≡ 0 → nth r p ≡ none
nth_spent [] p h = refl
nth_spent (x ∷ r) zero h = absurd (omega arith)
nth_spent (x ∷ r) (suc p) h = nth_spent r p (omega arith)

next_spent : {A : Type 0} (rows : List (List A)) (ps : List ℕ) (t : ℕ) → unplaced rows ps ≡ 0 → next rows ps t ≡ none
next_spent [] ps t h = refl
next_spent (r ∷ rows) [] t h = refl
next_spent (r ∷ rows) (p ∷ ps) zero h = nth_spent r p (omega arith)
next_spent (r ∷ rows) (p ∷ ps) (suc t) h = next_spent rows ps t (omega arith)

module _ (O : Object) where
  pub spent : (rows : Rows O) (x : Node O) → size O rows x ≡ 0 → (t : ℕ) → (space O rows).move x t ≡ idle
  spent rows x h t = rw (next_spent rows x.progress t h)

  only_none : (r : List (Entry O)) → completed O r ≡ 0 → only_pending O r ≡ true
  only_none [] h = refl
  only_none (e ∷ r) h = go (pending O e.ret) h (only_none r)
    where
      go : (b : Bool) → cond b (completed O r) (suc (completed O r)) ≡ 0 → (completed O r ≡ 0 → only_pending O r ≡ true) → b && only_pending O r ≡ true
      go true h f = f h
      go false h f = absurd (omega arith)

  only_some : (r : List (Entry O)) → completed O r ≢ 0 → only_pending O r ≡ false
  only_some [] h = absurd (h refl)
  only_some (e ∷ r) h = go (pending O e.ret) h (only_some r)
    where
      go : (b : Bool) → cond b (completed O r) (suc (completed O r)) ≢ 0 → (completed O r ≢ 0 → only_pending O r ≡ false) → b && only_pending O r ≡ false
      go true h f = f h
      go false h f = refl

  pub placed_none : (rows : Rows O) (ps : List ℕ) → left O rows ps ≡ 0 → all_placed O rows ps ≡ true
  unfolding left
  placed_none [] ps h = refl
  placed_none (r ∷ rows) [] h = refl
  placed_none (r ∷ rows) (p ∷ ps) h = rw (only_none (drop p r) (omega arith), placed_none rows ps (omega arith))

  pub placed_some : (rows : Rows O) (ps : List ℕ) → left O rows ps ≢ 0 → all_placed O rows ps ≡ false
  unfolding left
  placed_some [] ps h = absurd (h refl)
  placed_some (r ∷ rows) [] h = absurd (h refl)
  placed_some (r ∷ rows) (p ∷ ps) h = go (completed O (drop p r)) refl (placed_some rows ps)
    where
      go : (n : ℕ) → completed O (drop p r) ≡ n → (left O rows ps ≢ 0 → all_placed O rows ps ≡ false) → only_pending O (drop p r) && all_placed O rows ps ≡ false
      go zero e f = rw (only_none (drop p r) e, f (λ z. h (omega arith)))
      go (suc n) e f = rw (only_some (drop p r) (λ z. omega arith))

  completed_next : (r : List (Entry O)) (p : ℕ) (e : Entry O) → nth r p ≡ some e
      → completed O (drop p r) ≡ one_of O e.ret + completed O (drop (suc p) r)
  completed_next [] p e h = not_some h
  completed_next (x ∷ r) zero e h = let q : x ≡ e = cc in rw q (go e.ret)
    where
      go : (a : Option O.Ret) → cond (pending O a) (completed O r) (suc (completed O r)) ≡ one_of O a + completed O r
      go none = omega arith
      go (some q) = omega arith
  completed_next (x ∷ r) (suc p) e h = completed_next r p e h

  pub left_more : (rows : Rows O) (ps : List ℕ) (t : ℕ) (e : Entry O) → next rows ps t ≡ some e
      → left O rows ps ≡ one_of O e.ret + left O rows (more ps t)
  unfolding left
  left_more [] ps t e h = not_some h
  left_more (r ∷ rows) [] t e h = not_some h
  left_more (r ∷ rows) (p ∷ ps) zero e h = omega (arith, completed_next r p e h)
  left_more (r ∷ rows) (p ∷ ps) (suc t) e h = omega (arith, left_more rows ps t e h)
