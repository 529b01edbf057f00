-- A search tree that is grown deeper than the situation is large is the same tree.
use Rattle.std.specs.Prelude.{ℕ, zero, suc, ◌-◌, ◌≤◌, ◌≡◌, refl, Bool, true, false, cond, List, [], ◌∷◌, length}
use Rattle.std.proofs.Common.{sym, ap, ap₂, arith}
use Rattle.std.proofs.Math.Option.{none}
use Rattle.std.proofs.Math.ListN.{get_elem? as nth}
use Rattle.theory.specs.Tree.{Tree, done, stuck, turned, placed}
use Rattle.theory.specs.Space.{Move, idle, refused, place, Space, Step, branch, row, point, grow, Falls}
use Rattle.history.specs.Object.{Object}
use Rattle.history.specs.Rows.{Rows}
use Rattle.history.specs.Space.{Node, next, unplaced, trying, space, size}
use Rattle.history.specs.Moves.{falls}

module _ {L : Type 0} (S : Space L) where
  -- attempts that are the same behind each place

  branch_same : (f g : S.Node → Tree (Step S)) (t : ℕ) (v : Move L S.Node) (a b : Tree (Step S))
      → ((l : L) (y : S.Node) → v ≡ place l y → f y ≡ g y) → a ≡ b → branch S f t v a ≡ branch S g t v b
  branch_same f g t idle a b h e = e
  branch_same f g t refused a b h e = ap turned e
  branch_same f g t (place l y) a b h e = ap₂ (placed (record { thread = t; label = l; to = y })) (h l y refl) e

  row_same : (f g : S.Node → Tree (Step S)) (x : S.Node) → ((t : ℕ) (l : L) (y : S.Node) → S.move x t ≡ place l y → f y ≡ g y)
      → (t m : ℕ) → row S f x t m ≡ row S g x t m
  row_same f g x h t zero = refl
  row_same f g x h t (suc m) = branch_same f g t (S.move x t) (row S f x (suc t) m) (row S g x (suc t) m) (h t) (row_same f g x h (suc t) m)

  module _ (size : S.Node → ℕ) (falls : Falls S size) (rests : (x : S.Node) → size x ≤ 0 → (t : ℕ) → S.move x t ≡ idle) where
    -- where nothing is left to place, there is no attempt
    row_none : (f : S.Node → Tree (Step S)) (x : S.Node) → size x ≤ 0 → (t m : ℕ) → stuck ≡ row S f x t m
    row_none f x e t zero = refl
    row_none f x e t (suc m) = rw (rests x e t) (row_none f x e (suc t) m)

    no_deeper : (m : ℕ) (x : S.Node) → size x ≤ 0 → grow S zero x ≡ grow S (suc m) x
    no_deeper m x h = go (S.finished x)
      where
        go : (b : Bool) → cond b done stuck ≡ point S (grow S m) x b
        go true = refl
        go false = row_none (grow S m) x h 0 S.threads

    deep : (n m : ℕ) (x : S.Node) → size x ≤ n → size x ≤ m → grow S n x ≡ grow S m x
    deep zero zero x h k = refl
    deep zero (suc m) x h k = no_deeper m x h
    deep (suc n) zero x h k = sym (no_deeper n x k)
    deep (suc n) (suc m) x h k = go (S.finished x) (deep n m)
      where
        go : (b : Bool) → ((y : S.Node) → size y ≤ n → size y ≤ m → grow S n y ≡ grow S m y) → point S (grow S n) x b ≡ point S (grow S m) x b
        go true f = refl
        go false f =
            row_same (grow S n) (grow S m) x (λ t l y e. f y (omega (arith, falls x y t l e)) (omega (arith, falls x y t l e))) 0 S.threads

-- where all are placed, no thread has an operation next

nth_past : {A : Type 0} (r : List A) (p : ℕ) → length r - p ≤ 0 → nth r p ≡ none
nth_past [] p h = refl
nth_past (a ∷ r) zero h = absurd (omega arith)
nth_past (a ∷ r) (suc p) h = nth_past r p (omega arith)

next_past : {A : Type 0} (rows : List (List A)) (ps : List ℕ) (t : ℕ) → unplaced rows ps ≤ 0 → next rows ps t ≡ none
next_past [] ps t h = refl
next_past (r ∷ rows) [] t h = refl
next_past (r ∷ rows) (p ∷ ps) zero h = nth_past r p (omega arith)
next_past (r ∷ rows) (p ∷ ps) (suc t) h = next_past rows ps t (omega arith)

-- As many levels as there are operations left make the whole tree.
pub deep_enough : (O : Object) (rows : Rows O) (n m : ℕ) (x : Node O) → size O rows x ≤ n → size O rows x ≤ m
    → grow (space O rows) n x ≡ grow (space O rows) m x
deep_enough O rows = deep (space O rows) (size O rows) (falls O rows) (λ x h t. ap (trying O x t) (next_past rows x.progress t h))
