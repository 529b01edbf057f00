-- The loop with undo goes as the machine does: what holds before each turn, what each turn keeps, and what is answered where the loop ends.
use Rattle.std.specs.Prelude.{ℕ, zero, suc, ◌+◌, ◌-◌, ◌≤◌, ◌<◌, ◌≡◌, ◌≢◌, true, false}
use Rattle.std.proofs.Math.Path.{refl, ap, subst}
use Rattle.std.proofs.Common.{sym, ◌∙◌, arith}
use mathlib.Core.List.{[]}
use Rattle.theory.specs.Tree.{stuck}
use Rattle.theory.specs.Space.{idle, refused, place, Space, Step}
use Rattle.theory.specs.Budget.{order, no_order, undecided, Judged, judge}
use Rattle.theory.specs.Store.{Store, none_stored}
use Rattle.theory.specs.Machine.{State, state, trail, attempt, run, outcome}
use Rattle.theory.proofs.Running.{run_plain}
use Rattle.theory.proofs.Slices.{run_run}
use Rattle.theory.specs.Loop.{edge_of, levels}
use Rattle.theory.proofs.Loop.{run_ended, loop_start, loop_skip, loop_refused, loop_enter, loop_back, loop_none, loop_order, loop_open}
use Rattle.theory.specs.Undoing.{Ground, Undoing, frame, frames, Fine, Agree, frames_same, fine_same, fine_fits, fine_parts}
use Rattle.theory.specs.Going.{spot, Going, tree_of, start_of}

module _ {L M : Type 0} (S : Space L) (G : Ground S) (U : Undoing S) (Z : Store (Step S) M) where
  -- the loop may begin at any place where it stands
  pub going_start : (limit : ℕ) (lv : ℕ → U.Lv) (d : ℕ) (st : U.St) (t n : ℕ) (m : M)
      → n ≤ limit → t ≤ S.threads → Fine S U lv d st → Going S G U Z (spot S G U Z lv d st t n m) n limit lv d st t n m
  going_start limit lv d st t n m w h f = record {
    stands = let q : n - n ≡ 0 = omega arith in rw q;
    from = omega arith;
    within = w;
    small = h;
    fine = f;
  }

  module _ {z : State (Step S) M} {n0 limit : ℕ} {lv : ℕ → U.Lv} {d : ℕ} {st : U.St} {t n : ℕ} {m : M}
      (g : Going S G U Z z n0 limit lv d st t n m) where
    -- the state fits
    pub going_fits : U.Fits d st
    going_fits = fine_fits S U lv d st g.fine

    -- one attempt more from z
    one_more : attempt Z (run Z (n - n0) z) ≡ run Z (suc n - n0) z
    one_more =
        let f = g.from in
        let q : suc n - n0 ≡ (n - n0) + 1 = omega arith in
        rw q (sym (run_run Z (n - n0) 1 z))

    -- what is left of the budget changes nothing where the machine has ended
    rest_of : (y : State (Step S) M) → spot S G U Z lv d st t n m ≡ y → attempt Z y ≡ y → spot S G U Z lv d st t n m ≡ run Z (limit - n0) z
    rest_of y e k =
        let w = g.within in
        let f = g.from in
        let q : (n - n0) + (limit - n) ≡ limit - n0 = omega arith in
        e
        ∙ sym (run_ended Z (limit - n) y k)
        ∙ ap (run Z (limit - n)) (sym e ∙ g.stands)
        ∙ sym (run_run Z (n - n0) (limit - n) z)
        ∙ ap (λ (i : ℕ). run Z i z) q

    -- There are three ways out of the loop, and each leaves it where the machine stands after the whole budget.

    -- the budget is used up
    pub going_used : n ≡ limit → spot S G U Z lv d st t n m ≡ run Z (limit - n0) z
    going_used h = g.stands ∙ ap (λ (i : ℕ). run Z (i - n0) z) h

    -- an end is reached
    pub going_end : S.finished (U.node st) ≡ true → spot S G U Z lv d st t n m ≡ run Z (limit - n0) z
    going_end e = rest_of _ (loop_order S G.size Z (U.node st) e t (frames S U lv d st) n m) refl

    module _ (still : S.finished (U.node st) ≡ false) where
      -- no thread is left, and no level above
      pub going_none : t ≡ S.threads → d ≡ 0 → spot S G U Z lv d st t n m ≡ run Z (limit - n0) z
      unfolding frames
      going_none h k = rest_of (state stuck [] n m) (rw (h, k) (loop_none S G.size Z (U.node st) still [] n m)) refl

      -- a thread that has nothing left
      going_idle : t < S.threads → S.move (U.node st) t ≡ idle → Going S G U Z z n0 limit lv d st (suc t) n m
      going_idle h e = record {
        stands = loop_skip S G.size Z (U.node st) still (frames S U lv d st) n m t h e ∙ g.stands;
        from = g.from;
        within = g.within;
        small = omega arith;
        fine = g.fine;
      }

      -- an attempt that is turned away
      pub going_refused : t < S.threads → S.move (U.node st) t ≡ refused → n ≢ limit → Going S G U Z z n0 limit lv d st (suc t) (suc n) m
      going_refused h e k = record {
        stands = loop_refused S G.size Z (U.node st) still (frames S U lv d st) n m t h e ∙ ap (attempt Z) g.stands ∙ one_more;
        from = omega (arith, g.from);
        within = omega (arith, g.within);
        small = omega arith;
        fine = g.fine;
      }

      -- an attempt that is placed: down to the state `to`, with a level more that takes it back
      pub going_place : (lw : ℕ → U.Lv) (to : U.St) (l : L) → t < S.threads → S.move (U.node st) t ≡ place l (U.node to)
          → Z.known m (record { thread = t; label = l; to = U.node to }) ≡ false → n ≢ limit
          → Agree S U d lv lw → U.thread (lw d) ≡ t → U.label (lw d) st ≡ l → U.undone (lw d) to ≡ st
          → U.Fits (suc d) to → U.Can (lw d) to → Going S G U Z z n0 limit lw (suc d) to 0 (suc n) m
      unfolding frames Fine
      going_place lw to l h e v k a q b u f c = record {
        stands =
            rw (u, q, b, frames_same S U lv lw d st a)
            (loop_enter S G.size Z G.spent G.falls (U.node st) still (frames S U lv d st) n m t l (U.node to) h e v
            ∙ ap (attempt Z) g.stands
            ∙ one_more);
        from = omega (arith, g.from);
        within = omega (arith, g.within);
        small = omega arith;
        fine = (f, c, rw u (fine_same S U lv lw d st a g.fine));
      }

  -- over several threads that have nothing left
  pub going_skip : {z : State (Step S) M} {n0 limit : ℕ} {lv : ℕ → U.Lv} {d : ℕ} {st : U.St} {n : ℕ} {m : M} (t i u : ℕ)
      → Going S G U Z z n0 limit lv d st t n m → S.finished (U.node st) ≡ false → t + i ≡ u → u ≤ S.threads
      → ((k : ℕ) → t ≤ k → k < u → S.move (U.node st) k ≡ idle) → Going S G U Z z n0 limit lv d st u n m
  going_skip t zero u g still q h f = let e : t ≡ u = omega arith in rw e at g
  going_skip t (suc i) u g still q h f =
      let next = going_idle g still (omega arith) (f t (omega arith) (omega arith)) in
      going_skip (suc t) i u next still (omega arith) h (λ k a b. f k (omega arith) b)

  module _ {z : State (Step S) M} {n0 limit : ℕ} {lv : ℕ → U.Lv} {st : U.St} {t n : ℕ} {m : M} (d : ℕ)
      (g : Going S G U Z z n0 limit lv (suc d) st t n m) where
    -- the last level can be undone
    pub going_can : U.Can (lv d) st
    going_can = (fine_parts S U lv d st g.fine).0

    -- no thread is left: back to the level above, with its step stored
    pub going_back : S.finished (U.node st) ≡ false → t ≡ S.threads → U.thread (lv d) < S.threads
        → Going S G U Z z n0 limit lv d (U.undone (lv d) st) (suc (U.thread (lv d))) n
        (Z.add (edge_of S (frame S U (lv d) (U.undone (lv d) st)) (U.node st)) m)
    unfolding frames
    going_back still h k = record {
      stands =
          let b = U.undone (lv d) st in
          loop_back S G.size Z (U.node st) still (frames S U lv d b) n m (frame S U (lv d) b) ∙ (rw h at g.stands);
      from = g.from;
      within = g.within;
      small = k;
      fine = (fine_parts S U lv d st g.fine).1;
    }

-- the plain search, from its root
module _ {L : Type 0} (S : Space L) (G : Ground S) (U : Undoing S) where
  -- the loop begins at the root
  pub going_root : (root : U.St) (limit : ℕ) (lv : ℕ → U.Lv) → U.Fits 0 root
      → Going S G U none_stored (start_of S G U root) 0 limit lv 0 root 0 0 tt
  unfolding frames Fine
  going_root root limit lv f =
      subst (λ z. Going S G U none_stored z 0 limit lv 0 root 0 0 tt) (loop_start S G.size none_stored G.spent (U.node root) tt)
      (going_start S G U none_stored limit lv 0 root 0 0 tt (omega arith) (omega arith) f)

  -- what is judged is the outcome where the machine stands after the whole budget
  answered : (root : U.St) (limit : ℕ) {x : State (Step S) (Unit {0})} {j : Judged (Step S)} → x ≡ run none_stored (limit - 0) (start_of S G U root)
      → outcome none_stored x ≡ j → judge limit (tree_of S G U root) ≡ j
  answered root limit e o =
      let q : limit - 0 ≡ limit = omega arith in
      sym (run_plain limit (tree_of S G U root)) ∙ ap (outcome none_stored) (sym (rw q at e)) ∙ o

  module _ (root : U.St) {limit : ℕ} {lv : ℕ → U.Lv} {d : ℕ} {st : U.St} {t n : ℕ}
      (g : Going S G U none_stored (start_of S G U root) 0 limit lv d st t n tt) where
    -- at an end: the steps of the levels above
    pub answer_order : S.finished (U.node st) ≡ true
        → judge limit (tree_of S G U root)
        ≡ record { verdict = order (trail (levels S G.size (U.node st) (frames S U lv d st)) []); attempts = n }
    answer_order e =
        answered root limit (going_end S G U none_stored g e)
        (ap (outcome none_stored) (loop_order S G.size none_stored (U.node st) e t (frames S U lv d st) n tt))

    module _ (still : S.finished (U.node st) ≡ false) where
      -- with no thread left, and no level above
      pub answer_none : t ≡ S.threads → d ≡ 0 → judge limit (tree_of S G U root) ≡ record { verdict = no_order; attempts = n }
      unfolding frames
      answer_none h k =
          answered root limit (going_none S G U none_stored g still h k)
          (rw (h, k) (ap (outcome none_stored) (loop_none S G.size none_stored (U.node st) still [] n tt)))

      -- before an attempt that the budget does not cover
      pub answer_open : t < S.threads → (S.move (U.node st) t ≡ idle → ⊥) → n ≡ limit
          → judge limit (tree_of S G U root) ≡ record { verdict = undecided; attempts = n }
      answer_open h b k =
          answered root limit (going_used S G U none_stored g k) (loop_open S G.size none_stored (U.node st) still (frames S U lv d st) n tt t h b)
