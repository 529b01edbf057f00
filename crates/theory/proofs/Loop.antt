-- The machine as a loop over situations: what each turn does.
use Rattle.std.specs.Prelude.{ℕ, zero, suc, ◌-◌, ◌<◌, pred, ◌≡◌, refl, Bool, true, false, cond, List, [], ◌∷◌}
use Rattle.std.proofs.Common.{sym, ap, ◌∙◌, arith}
use Rattle.theory.specs.Tree.{Tree, done, stuck, turned, placed}
use Rattle.theory.specs.Space.{Move, idle, refused, place, Space, Step, branch, row, point, grow, Falls}
use Rattle.theory.specs.Budget.{broken}
use Rattle.theory.specs.Store.{Store}
use Rattle.theory.specs.Machine.{Level, State, state, settle, attempt, run, start, outcome}
use Rattle.theory.specs.Loop.{Frame, pos, edge_of, here, levels, stand}

module _ {L : Type 0} (S : Space L) (size : S.Node → ℕ) where
  -- in a situation that is no end

  here_move : (x : S.Node) → S.finished x ≡ false → (t : ℕ) (v : Move L S.Node) → t < S.threads → S.move x t ≡ v
      → here S size x t ≡ branch S (grow S (pred (size x))) t v (here S size x (suc t))
  here_move x still t v h e = let q : S.threads - t ≡ suc (S.threads - suc t) = omega arith in rw (still, q, e)

  here_none : (x : S.Node) → S.finished x ≡ false → here S size x S.threads ≡ stuck
  here_none x still = let q : S.threads - S.threads ≡ 0 = omega arith in rw (still, q)

  -- in a situation where nothing was tried yet

  row_idle : (below : S.Node → Tree (Step S)) (x : S.Node) → ((t : ℕ) → S.move x t ≡ idle) → (t m : ℕ) → row S below x t m ≡ stuck
  row_idle below x f t zero = refl
  row_idle below x f t (suc m) = rw (f t) (row_idle below x f (suc t) m)

  point_cond : (below : S.Node → Tree (Step S)) (x : S.Node) (b : Bool) → cond b done (row S below x 0 S.threads) ≡ point S below x b
  point_cond below x true = refl
  point_cond below x false = refl

  here_start : ((x : S.Node) → size x ≡ 0 → (t : ℕ) → S.move x t ≡ idle) → (y : S.Node) → here S size y 0 ≡ grow S (size y) y
  here_start spent y = go (size y) refl
    where
      go : (n : ℕ) → size y ≡ n → here S size y 0 ≡ grow S n y
      go zero e = rw (row_idle (grow S (pred (size y))) y (spent y e) 0 (S.threads - 0))
      go (suc n) e =
          let q : S.threads - 0 ≡ S.threads = omega arith in
          let r : pred (size y) ≡ n = omega arith in
          rw (q, r) (point_cond (grow S n) y (S.finished y))

module _ {E M : Type 0} (Z : Store E M) where
  -- where something is left to try, or an end is reached, the machine does not go up

  settle_done : (ls : List (Level E)) (n : ℕ) (m : M) → settle Z ls done n m ≡ state done ls n m
  settle_done [] n m = refl
  settle_done (l ∷ ls) n m = refl

  settle_turned : (ls : List (Level E)) (r : Tree E) (n : ℕ) (m : M) → settle Z ls (turned r) n m ≡ state (turned r) ls n m
  settle_turned [] r n m = refl
  settle_turned (l ∷ ls) r n m = refl

  settle_placed : (ls : List (Level E)) (e : E) (s r : Tree E) (n : ℕ) (m : M) → settle Z ls (placed e s r) n m ≡ state (placed e s r) ls n m
  settle_placed [] e s r n m = refl
  settle_placed (l ∷ ls) e s r n m = refl

  -- a machine that an attempt leaves as it is has ended: it stays there
  pub run_ended : (b : ℕ) (x : State E M) → attempt Z x ≡ x → run Z b x ≡ x
  run_ended zero x h = refl
  run_ended (suc b) x h = ap (run Z b) h ∙ run_ended b x h

module _ {L M : Type 0} (S : Space L) (size : S.Node → ℕ) (Z : Store (Step S) M) where
  -- an end is reached
  pub loop_order : (x : S.Node) → S.finished x ≡ true → (t : ℕ) (fs : List (Frame L S.Node)) (n : ℕ) (m : M)
      → stand S size Z (pos x t fs n m) ≡ state done (levels S size x fs) n m
  loop_order x e t fs n m = rw e (settle_done Z (levels S size x fs) n m)

  -- in a situation that is no end
  module _ (x : S.Node) (still : S.finished x ≡ false) (fs : List (Frame L S.Node)) (n : ℕ) (m : M) where
    -- a thread that has nothing left is passed over
    pub loop_skip : (t : ℕ) → t < S.threads → S.move x t ≡ idle → stand S size Z (pos x (suc t) fs n m) ≡ stand S size Z (pos x t fs n m)
    loop_skip t h e = ap (λ (s : Tree (Step S)). settle Z (levels S size x fs) s n m) (sym (here_move S size x still t idle h e))

    -- an attempt that is turned away
    pub loop_refused : (t : ℕ) → t < S.threads → S.move x t ≡ refused
        → stand S size Z (pos x (suc t) fs (suc n) m) ≡ attempt Z (stand S size Z (pos x t fs n m))
    loop_refused t h e = rw (here_move S size x still t refused h e, settle_turned Z (levels S size x fs) (here S size x (suc t)) n m)

    -- no thread is left: back up to the situation before, with the step from there stored
    pub loop_back : (f : Frame L S.Node)
        → stand S size Z (pos f.before (suc f.thread) fs n (Z.add (edge_of S f x) m)) ≡ stand S size Z (pos x S.threads (f ∷ fs) n m)
    loop_back f = rw (here_none S size x still)

    -- no thread is left, and no situation is before
    pub loop_none : stand S size Z (pos x S.threads [] n m) ≡ state stuck [] n m
    loop_none = rw (here_none S size x still)

    -- before an attempt nothing is decided
    pub loop_open : (t : ℕ) → t < S.threads → (S.move x t ≡ idle → ⊥) → outcome Z (stand S size Z (pos x t fs n m)) ≡ broken n
    loop_open t h b = go (S.move x t) refl
      where
        go : (v : Move L S.Node) → S.move x t ≡ v → outcome Z (stand S size Z (pos x t fs n m)) ≡ broken n
        go idle e = absurd (b e)
        go refused e = rw (here_move S size x still t refused h e, settle_turned Z (levels S size x fs) (here S size x (suc t)) n m)
        go (place l y) e =
            let b = grow S (pred (size x)) y in
            let r = here S size x (suc t) in
            rw (here_move S size x still t (place l y) h e, settle_placed Z (levels S size x fs) (record { thread = t; label = l; to = y }) b r n m)

  module _ (spent : (x : S.Node) → size x ≡ 0 → (t : ℕ) → S.move x t ≡ idle) where
    -- the search begins
    pub loop_start : (x : S.Node) (m : M) → stand S size Z (pos x 0 [] 0 m) ≡ start Z (grow S (size x) x) m
    loop_start x m = rw (here_start S size spent x)

    -- an attempt that is placed: down to where it leads
    pub loop_enter : Falls S size → (x : S.Node) → S.finished x ≡ false → (fs : List (Frame L S.Node)) (n : ℕ) (m : M) (t : ℕ) (l : L) (y : S.Node)
        → t < S.threads → S.move x t ≡ place l y → Z.known m (record { thread = t; label = l; to = y }) ≡ false
        → stand S size Z (pos y 0 (record { thread = t; label = l; before = x } ∷ fs) (suc n) m) ≡ attempt Z (stand S size Z (pos x t fs n m))
    loop_enter falls x still fs n m t l y h e k =
        let r = here S size x (suc t) in
        let q : pred (size x) ≡ size y = omega (arith, falls x y t l e) in
        let d : here S size x t ≡ placed (record { thread = t; label = l; to = y }) (here S size y 0) r =
        here_move S size x still t (place l y) h e ∙ rw (q, here_start S size spent y) in
        rw (d, settle_placed Z (levels S size x fs) (record { thread = t; label = l; to = y }) (here S size y 0) r n m, k)
