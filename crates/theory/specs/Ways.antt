-- The ways of a space's search tree are exactly the space's ways to an end.
use Rattle.std.specs.Prelude.{ℕ, zero, suc, ◌+◌, ◌≤◌, ◌<◌, ◌≡◌, refl, ◌↔◌, Bool, true, false, cond, List, ◌∷◌}
use Rattle.std.proofs.Common.{arith}
use Rattle.theory.specs.Tree.{Tree, done, stuck, placed, Way, end, into, past, over, no_way_stuck}
use Rattle.theory.specs.Space.{Move, idle, refused, place, Space, Step, Leads, ends, goes, branch, row, point, grow, Falls}

module _ {L : Type 0} (S : Space L) where
  -- from the tree to the space

  module _ (below : S.Node → Tree (Step S)) (sound : (y : S.Node) (p : List (Step S)) → Way (below y) p → Leads S y p)
      (x : S.Node) (unended : S.finished x ≡ false) where
    placed_leads : (t : ℕ) (r : Tree (Step S)) (l : L) (y : S.Node) (p : List (Step S)) → S.move x t ≡ place l y → t < S.threads
        → (Way r p → Leads S x p) → Way (placed (record { thread = t; label = l; to = y }) (below y) r) p → Leads S x p
    placed_leads t r l y _ e h f (into w) = goes unended h e (sound y _ w)
    placed_leads t r l y p e h f (past w) = f w

    branch_leads : (t : ℕ) (r : Tree (Step S)) (p : List (Step S)) (v : Move L S.Node) → S.move x t ≡ v → t < S.threads
        → (Way r p → Leads S x p) → Way (branch S below t v r) p → Leads S x p
    branch_leads t r p idle e h f w = f w
    branch_leads t r p refused e h f (over w) = f w
    branch_leads t r p (place l y) e h f w = placed_leads t r l y p e h f w

    row_leads : (t m : ℕ) (p : List (Step S)) → t + m ≤ S.threads → Way (row S below x t m) p → Leads S x p
    row_leads t zero p h w = absurd (no_way_stuck w)
    row_leads t (suc m) p h w =
        branch_leads t (row S below x (suc t) m) p (S.move x t) refl (omega arith) (row_leads (suc t) m p (omega arith)) w

  done_leads : {x : S.Node} (p : List (Step S)) → S.finished x ≡ true → Way done p → Leads S x p
  done_leads _ e end = ends e

  grow_leads : (n : ℕ) (x : S.Node) (p : List (Step S)) → Way (grow S n x) p → Leads S x p
  grow_leads zero x p w = go (S.finished x) refl w
    where
      go : (b : Bool) → S.finished x ≡ b → Way (cond b done stuck) p → Leads S x p
      go true e w = done_leads p e w
      go false e w = absurd (no_way_stuck w)
  grow_leads (suc n) x p w = go (S.finished x) refl (grow_leads n) w
    where
      go : (b : Bool) → S.finished x ≡ b → ((y : S.Node) (q : List (Step S)) → Way (grow S n y) q → Leads S y q)
          → Way (point S (grow S n) x b) p → Leads S x p
      go true e f w = done_leads p e w
      go false e f w = row_leads (grow S n) f x e 0 S.threads p (omega arith) w

  -- from the space to the tree

  branch_past : (below : S.Node → Tree (Step S)) (t : ℕ) (v : Move L S.Node) {r : Tree (Step S)} {p : List (Step S)}
      → Way r p → Way (branch S below t v r) p
  branch_past below t idle w = w
  branch_past below t refused w = over w
  branch_past below t (place l y) w = past w

  row_way : (below : S.Node → Tree (Step S)) (x y : S.Node) (l : L) (t i m : ℕ) (p : List (Step S)) → i < m
      → S.move x (t + i) ≡ place l y → Way (below y) p → Way (row S below x t m) (record { thread = t + i; label = l; to = y } ∷ p)
  row_way below x y l t i zero p h e w = absurd (omega arith)
  row_way below x y l t zero (suc m) p h e w =
      let z : t + 0 ≡ t = omega arith in
      let f : S.move x t ≡ place l y = rw z at e in
      rw (z, f) (into w)
  row_way below x y l t (suc i) (suc m) p h e w =
      let z : t + suc i ≡ suc t + i = omega arith in
      let k : i < m = omega arith in
      branch_past below t (S.move x t) (rw z (row_way below x y l (suc t) i m p k (rw z at e) w))

  module _ (size : S.Node → ℕ) (falls : Falls S size) where
    leads_way : {x : S.Node} {p : List (Step S)} (n : ℕ) → size x ≤ n → Leads S x p → Way (grow S n x) p
    leads_way zero h (ends e) = rw e end
    leads_way (suc n) h (ends e) = rw e end
    leads_way zero h (goes {x = x} {y = y} {l = l} {t = t} o k e w) = absurd (omega (arith, falls x y t l e))
    leads_way (suc n) h (goes {x = x} {y = y} {l = l} {t = t} {p = p} o k e w) =
        let z : 0 + t ≡ t = omega arith in
        let v : Way (grow S n y) p = leads_way {x = y} n (omega (arith, falls x y t l e)) w in
        rw o (rw z at (row_way (grow S n) x y l 0 t S.threads p k (rw z e) v))

    -- a tree that is grown as deep as the situation is large has the ways that lead from there to an end, and no others
    pub grow_ways : (n : ℕ) (x : S.Node) (p : List (Step S)) → size x ≤ n → Way (grow S n x) p ↔ Leads S x p
    grow_ways n x p h = (grow_leads n x p, leads_way n h)
