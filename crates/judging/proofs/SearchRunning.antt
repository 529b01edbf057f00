-- The search loop's invariant: how it begins, what is answered where it ends, and what an attempt that is turned away does to it.
use Rattle.std.specs.Prelude.{ℕ, ◌+◌, ◌-◌, ◌≤◌, ◌<◌, ◌≡◌, refl, ◌≢◌, true, false, length, get_or, replicate, ℤ}
use Rattle.std.proofs.Common.{sym, ap, ◌∙◌, add-one, arith}
use mathlib.Core.List.{List, [], append-nil}
use Rattle.theory.specs.Space.{idle, refused}
use Rattle.theory.specs.Budget.{judge}
use Rattle.theory.specs.Judge.{tree}
use Rattle.theory.specs.Machine.{trail}
use Rattle.theory.specs.Store.{none_stored}
use Rattle.theory.specs.Loop.{levels as levels_above}
use Rattle.theory.specs.Undoing.{frames, trail_shown}
use Rattle.theory.specs.Going.{tree_of}
use Rattle.theory.proofs.Going.{going_root, going_fits, going_skip, going_refused, answer_order, answer_none, answer_open}
use Rattle.history.specs.Space.{Node, met, all_placed, unplaced, root}
use Rattle.history.specs.Moves.{falls}
use Rattle.history.proofs.Left.{placed_none, placed_some, spent}
use Rattle.values.specs.Sizes.{threads, capacity, room}
use Rattle.families.specs.Families.{families}
use Rattle.families.specs.Placing.{held_of, fits_of}
use Rattle.families.specs.States.{state_of, kind_held}
use Rattle.values.specs.declared.held.Held.{Held}
use Rattle.stepping.specs.declared.histories.History.{History}
use Rattle.stepping.specs.Record.{operation_at}
use Rattle.stepping.specs.Shape.{shape_of}
use Rattle.recording_meaning.specs.Reading.{Sized, rows_of}
use Rattle.recording_meaning.specs.Rowing.{rows_many}
use Rattle.recording_meaning.specs.Parts.{parts_of}
use Rattle.families.specs.Room.{start_room_lem, room_fewer}
use Rattle.recording_meaning.specs.ShapeExactly.{shape_exactly}
use Rattle.judging.specs.declared.answer.Verdict.TheVariants.{Order, NoOrder, Undecided}
use Rattle.judging.specs.declared.search.Level.{Level}
use Rattle.judging.specs.Answers.{placed, judged_of}
use Rattle.judging.specs.Places.{places_of, Started, Ready, sum_of}
use Rattle.judging.specs.PlacesLaws.{places_few}
use Rattle.judging.specs.Playing.{situation, origin}
use Rattle.judging.specs.SearchStops.{Stops}
use Rattle.judging.specs.Rowing.{left_origin, unplaced_origin}
use Rattle.judging.specs.Leading.{led}
use Rattle.judging.specs.SearchMachine.{lv_of, node_of, Fits, S, G, U, move_idle, move_open, move_early, move_wrong}
use Rattle.judging.specs.SearchRunning.{Goes, Running, s}

-- the loop begins
pub running_start : (needs : ℕ → List ℕ) (h : History) (budget : ℕ) (started path : List ℕ) (levels : List Level) (held : Held) (remaining : ℕ)
    → held ≡ held_of h.start.kind → remaining ≡ sum_of h.done → Sized h → length h.start.items ≡ room → shape_of h ≡ true → Started h started
    → length path ≡ capacity → length levels ≡ capacity
    → Running needs h budget started path levels 0 (situation h.start.items held (replicate threads 0)) remaining 0 0
running_start needs h budget started path levels held remaining e r z i sh ix pl ll = rw e (record {
  going = going_root (S needs h) (G needs h) (U needs h) (origin h) budget (lv_of path levels) (record {
    roomy = room_fewer h.start.kind (held_of h.start.kind) capacity _ (omega (arith, unplaced_origin needs h z sh))
        (start_room_lem h.start.kind ((shape_exactly h z).1 sh).startable);
    deep = omega (arith, unplaced_origin needs h z sh);
    items_long = i;
    progress_long = refl;
    begins = λ q. refl;
  });
  left_is = r ∙ sym (left_origin needs h z sh);
  sized = z;
  shape = sh;
  counts = ix;
  path_long = pl;
  levels_long = ll;
})

-- what is judged is the search from the origin
judged_from : (needs : ℕ → List ℕ) (h : History) (b : ℕ) → judged_of needs h b ≡ judge b (tree_of (S needs h) (G needs h) (U needs h) (origin h))
unfolding judged_of
judged_from needs h b =
    let e : root families (rows_of needs h) (state_of h.start.kind h.start.items) ≡ node_of needs h (origin h)
    = rw (rows_many needs h, kind_held h.start.kind) in
    ap (λ (x : Node families). judge b (tree (S needs h) (G needs h).size (falls families (rows_of needs h)) x)) e

module _ {needs : ℕ → List ℕ} {h : History} {budget : ℕ} {started path : List ℕ} {levels : List Level} {d : ℕ} {items : List ℤ} {held : Held}
    {progress : List ℕ} {remaining next n : ℕ}
    (g : Running needs h budget started path levels d (situation items held progress) remaining next n) where
  pub fits : Fits needs h d (s g)
  fits = going_fits (S needs h) (G needs h) (U needs h) none_stored g.going

  pub next_small : next ≤ threads
  next_small = rw (rows_many needs h) at g.going.small

  pub depth_small : d ≤ capacity
  depth_small = omega (arith, fits.deep)

  pub within : n ≤ budget
  within = g.going.within

  finished : remaining ≡ 0 → all_placed families (rows_of needs h) progress ≡ true
  finished e = placed_none families (rows_of needs h) progress (sym g.left_is ∙ e)

  pub still : remaining ≢ 0 → all_placed families (rows_of needs h) progress ≡ false
  still e = placed_some families (rows_of needs h) progress (λ z. e (g.left_is ∙ z))

  -- every completed operation is placed
  pub found : remaining ≡ 0 → Stops (judged_of needs h budget) h path (record { verdict = Order; depth = d; attempts = n })
  unfolding Stops
  found e =
      let w = led needs h path levels d (s g) (omega (arith, depth_small, g.path_long)) g.going.fine in
      record {
        steps = trail (levels_above (S needs h) (G needs h).size (node_of needs h (s g)) (frames (S needs h) (U needs h) (lv_of path levels) d (s g))) [];
        is = judged_from needs h budget ∙ answer_order (S needs h) (G needs h) (U needs h) (origin h) g.going (finished e);
        shown = trail_shown (S needs h) (U needs h) (G needs h).size placed (lv_of path levels) d (s g) [] ∙ w.shows [] ∙ append-nil _;
        within = depth_small;
        playable = w.playable;
      }

  -- the next thread that has something to place is k, or there is none
  module _ (unfinished : remaining ≢ 0) (k : ℕ) (r : Ready started progress next k) where
    pub at_k : Goes needs h budget path levels d (s g) k n
    at_k =
        let a = r.above in
        let b = r.below in
        let e : next + (k - next) ≡ k = omega arith in
        going_skip (S needs h) (G needs h) (U needs h) none_stored next (k - next) k g.going (still unfinished) e (rw (rows_many needs h) b)
        (λ j x y.
        let low : j < threads = omega arith in
        move_idle needs h g.sized g.shape (s g) d fits j low (omega (arith, r.passed j x y, g.counts j low)))

    -- no thread, and no level above
    pub exhausted : threads ≤ k → d ≡ 0 → Stops (judged_of needs h budget) h path (record { verdict = NoOrder; depth = d; attempts = n })
    unfolding Stops
    exhausted l z =
        let b = r.below in
        judged_from needs h budget
        ∙ answer_none (S needs h) (G needs h) (U needs h) (origin h) at_k (still unfinished) (omega (arith, rows_many needs h)) z

    module _ (low : k < threads) where
      pub has : get_or progress k 0 < length (places_of h k)
      has = omega (arith, r.has low, g.counts k low)

      pub low_row : k < length (rows_of needs h)
      low_row = omega (arith, rows_many needs h)

      pub progress_small : get_or progress k 0 < capacity
      progress_small = omega (arith, has, places_few h k h.count, (parts_of h g.shape).few)

      not_idle : (S needs h).move (node_of needs h (s g)) k ≡ idle → ⊥
      not_idle = move_open needs h g.sized g.shape (s g) d fits k low has _ refl

      -- something is left to place
      pub some_unplaced : unplaced (rows_of needs h) progress ≢ 0
      some_unplaced z = not_idle (spent families (rows_of needs h) (node_of needs h (s g)) z k)

      pub deeper : d < capacity
      deeper = omega (arith, fits.deep, some_unplaced)

      -- the budget is used up
      pub used : n ≡ budget → Stops (judged_of needs h budget) h path (record { verdict = Undecided; depth = d; attempts = n })
      unfolding Stops
      used e =
          judged_from needs h budget
          ∙ answer_open (S needs h) (G needs h) (U needs h) (origin h) at_k (still unfinished) low_row not_idle e

      -- its operation stands at place i
      module _ (i : ℕ) (at : i ≡ get_or (places_of h k) (get_or progress k 0) 0) (unused : n ≢ budget) where
        turned_away : (S needs h).move (node_of needs h (s g)) k ≡ refused → Running needs h budget started path levels d (s g) remaining (k + 1) (n + 1)
        turned_away e = rw (add-one k, add-one n) (record {
          going = going_refused (S needs h) (G needs h) (U needs h) none_stored at_k (still unfinished) low_row e unused;
          left_is = g.left_is;
          sized = g.sized;
          shape = g.shape;
          counts = g.counts;
          path_long = g.path_long;
          levels_long = g.levels_long;
        })

        pub turn_early : met (needs i) progress ≡ false → Running needs h budget started path levels d (s g) remaining (k + 1) (n + 1)
        turn_early e = turned_away (move_early needs h g.sized g.shape (s g) d fits k low has i (sym at) e)

        pub turn_wrong : met (needs i) progress ≡ true → fits_of items held (operation_at h i).op (operation_at h i).outcome ≡ false
            → Running needs h budget started path levels d (s g) remaining (k + 1) (n + 1)
        turn_wrong m e = turned_away (move_wrong needs h g.sized g.shape (s g) d fits k low has i (sym at) m e)
