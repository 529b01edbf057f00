-- What placing an operation and going back over one do to the search loop's invariant.
use Rattle.std.specs.Prelude.{ℕ, zero, suc, ◌+◌, ◌-◌, ◌≤◌, ◌<◌, ◌≡◌, refl, ◌≢◌, true, List, length, get_or, set, ℤ}
use Rattle.std.proofs.Common.{sym, ◌∙◌, subst, length-set, get_or-set_same, get_or-set_other, set-set, add-one, arith}
use Rattle.std.proofs.Math.Path.{ap}
use Rattle.std.proofs.lemmas.List.{set-get_or}
use Rattle.theory.specs.Space.{place}
use Rattle.theory.specs.Store.{none_stored}
use Rattle.theory.proofs.Going.{going_can, going_place, going_back}
use Rattle.history.specs.Space.{unplaced, met}
use Rattle.history.specs.Moves.{falls}
use Rattle.history.specs.Left.{one_of, left}
use Rattle.history.proofs.Left.{left_more}
use Rattle.values.specs.Sizes.{threads}
use Rattle.families.specs.Families.{families}
use Rattle.families.specs.Placing.{fits_of, held_after, leaves_of, acted_of, back_of}
use Rattle.families.specs.PlacingUndone.{back_acted, leaves_length}
use Rattle.values.specs.declared.held.Held.{Held}
use Rattle.values.specs.declared.held.Acted.{Acted}
use Rattle.stepping.specs.declared.histories.History.{History}
use Rattle.stepping.specs.Record.{operation_at}
use Rattle.recording_meaning.specs.Reading.{return_in, rows_of}
use Rattle.recording_meaning.specs.Rowing.{rows_many}
use Rattle.families.specs.Room.{Room, room_fewer, step_room}
use Rattle.judging.specs.declared.search.Level.{Level}
use Rattle.judging.specs.Places.{places_of, Ready}
use Rattle.judging.specs.Playing.{Situation, situation, onward, given_to}
use Rattle.judging.specs.Rowing.{more_set, entry_at}
use Rattle.judging.specs.SearchMachine.{Lv, no_level, lv_of, undone, node_of, Fits, Can, S, G, U, own, is_next, move_place}
use Rattle.judging.specs.SearchRunning.{Goes, Running}
use Rattle.judging.proofs.SearchRunning.{fits, still, at_k, has, low_row, some_unplaced, deeper}

-- an operation is placed
module _ {needs : ℕ → List ℕ} {h : History} {budget : ℕ} {started path : List ℕ} {levels : List Level} {d : ℕ} {items : List ℤ} {held : Held}
    {progress : List ℕ} {remaining next n : ℕ}
    (g : Running needs h budget started path levels d (situation items held progress) remaining next n) (unfinished : remaining ≢ 0) (k : ℕ)
    (r : Ready started progress next k) (low : k < threads) (at : ℕ) (here : at ≡ get_or (places_of h k) (get_or progress k 0) 0) where
  abbrev s : Situation
  s = situation items held progress

  -- the progress with one more of thread k
  abbrev ps : List ℕ
  ps = set progress k (get_or progress k 0 + 1)

  left_one : remaining ≡ one_of families (return_in (operation_at h at).outcome) + left families (rows_of needs h) ps
  left_one =
      g.left_is
      ∙ left_more families (rows_of needs h) progress k (entry_at needs h at) (is_next needs h g.sized g.shape s d (fits g) k low (has g unfinished k r low) at (sym here))
      ∙ ap (λ (l : List ℕ). one_of families (return_in (operation_at h at).outcome) + left families (rows_of needs h) l) (more_set progress k)

  pub left_enough : one_of families (return_in (operation_at h at).outcome) ≤ remaining
  left_enough = omega (arith, left_one)

  module _ (unused : n ≢ budget) (ready : met (needs at) progress ≡ true)
      (right : fits_of items held (operation_at h at).op (operation_at h at).outcome ≡ true)
      (acted : Acted) (after : List ℤ) (one : ℕ) (ea : acted ≡ acted_of items held (operation_at h at).op)
      (ei : after ≡ leaves_of items held (operation_at h at).op) (eo : one ≡ one_of families (return_in (operation_at h at).outcome)) where
    -- where it leads, and the level that takes it back

    abbrev to : Situation
    to = situation after acted.held ps

    abbrev level : Level
    level = record { held = held; undo = acted.undo; left = remaining }

    abbrev lv : Lv
    lv = record { thread = k; level = level }

    on_long : k < length progress
    on_long = omega (arith, (fits g).progress_long)

    held_after_lem : acted.held ≡ held_after held (operation_at h at).op
    unfolding acted_of
    held_after_lem = ap (λ (a : Acted). a.held) ea

    goes_on : onward h s k ≡ to
    goes_on = rw (sym here, held_after_lem, ei)

    back_progress : set ps k (get_or ps k 0 - 1) ≡ progress
    back_progress =
        let q : get_or progress k 0 + 1 - 1 ≡ get_or progress k 0 = omega arith in
        rw (get_or-set_same progress k (get_or progress k 0 + 1) 0 on_long, q, set-set progress k (get_or progress k 0 + 1) (get_or progress k 0), set-get_or progress k 0)

    goes_back : undone lv to ≡ s
    goes_back = rw (back_progress, ea, ei, back_acted items held (operation_at h at).op)

    moves : (S needs h).move (node_of needs h s) k ≡ place (given_to h s k).ret (node_of needs h to)
    moves =
        subst (λ (b : Situation). (S needs h).move (node_of needs h s) k ≡ place (given_to h s k).ret (node_of needs h b)) goes_on
        (move_place needs h g.sized g.shape s d (fits g) k low (has g unfinished k r low) at (sym here) ready
        (room_fewer h.start.kind held (unplaced (rows_of needs h) progress) 1 (omega (arith, some_unplaced g unfinished k r low)) (fits g).roomy) right)

    one_less : unplaced (rows_of needs h) progress ≡ suc (unplaced (rows_of needs h) ps)
    one_less = falls families (rows_of needs h) (node_of needs h s) (node_of needs h to) k (given_to h s k).ret moves

    fits_to : Fits needs h (suc d) to
    fits_to = record {
      roomy = rw held_after_lem (step_room h.start.kind held (operation_at h at).op (unplaced (rows_of needs h) ps)
          (own needs h g.sized g.shape s d (fits g) k low (has g unfinished k r low) at (sym here))
          (subst (λ (m : ℕ). Room h.start.kind held m) one_less (fits g).roomy));
      deep = omega (arith, (fits g).deep, one_less);
      items_long = ap length ei ∙ leaves_length items held (operation_at h at).op ∙ (fits g).items_long;
      progress_long = length-set progress k (get_or progress k 0 + 1) ∙ (fits g).progress_long;
      begins = λ z. absurd (omega arith);
    }

    can_to : Can needs h lv to
    can_to = record {
      low = low;
      some_placed = rw (get_or-set_same progress k (get_or progress k 0 + 1) 0 on_long) (omega arith);
      had = rw back_progress (has g unfinished k r low);
      left_before = rw back_progress g.left_is;
      again = ap (λ (b : Situation). onward h b k) goes_back ∙ goes_on;
    }

    at_depth : lv_of (set path d k) (set levels d level) d ≡ lv
    at_depth =
        let a : d < length path = omega (arith, deeper g unfinished k r low, g.path_long) in
        let b : d < length levels = omega (arith, deeper g unfinished k r low, g.levels_long) in
        rw (get_or-set_same path d k 0 a, get_or-set_same levels d level no_level b)

    above : (i : ℕ) → i < d → lv_of path levels i ≡ lv_of (set path d k) (set levels d level) i
    above i l = let x : i ≢ d = omega arith in rw (get_or-set_other path d i k 0 x, get_or-set_other levels d i level no_level x)

    pub turn_placed : Running needs h budget started (set path d k) (set levels d level) (d + 1) to (remaining - one) 0 (n + 1)
    turn_placed = rw (add-one d, add-one n) (record {
      going = going_place (S needs h) (G needs h) (U needs h) none_stored (at_k g unfinished k r) (still g unfinished)
          (lv_of (set path d k) (set levels d level)) to (given_to h s k).ret (low_row g unfinished k r low) moves
          refl unused above (ap (λ (l : Lv). l.thread) at_depth) (ap (λ (l : Lv). (given_to h s l.thread).ret) at_depth)
          (ap (λ (l : Lv). undone l to) at_depth ∙ goes_back) fits_to (subst (λ (l : Lv). Can needs h l to) (sym at_depth) can_to);
      left_is = omega (arith, left_one, eo);
      sized = g.sized;
      shape = g.shape;
      counts = g.counts;
      path_long = length-set path d k ∙ g.path_long;
      levels_long = length-set levels d level ∙ g.levels_long;
    })

-- back over a level
module _ {needs : ℕ → List ℕ} {h : History} {budget : ℕ} {started path : List ℕ} {levels : List Level} {d : ℕ} {items : List ℤ} {held : Held}
    {progress : List ℕ} {remaining next n : ℕ}
    (g : Running needs h budget started path levels d (situation items held progress) remaining next n) (some-above : d ≢ 0) where
  abbrev top : Situation
  top = situation items held progress

  can : Can needs h (lv_of path levels (d - 1)) top
  can = go d some-above g.going
    where
      go : (m : ℕ) → m ≢ 0 → Goes needs h budget path levels m top next n → Can needs h (lv_of path levels (m - 1)) top
      go zero z w = absurd (z refl)
      go (suc m) z w = let q : suc m - 1 ≡ m = omega arith in rw q (going_can (S needs h) (G needs h) (U needs h) none_stored m w)

  pub back_low : get_or path (d - 1) 0 < threads
  back_low = can.low

  pub back_some : 0 < get_or progress (get_or path (d - 1) 0) 0
  back_some = can.some_placed

  pub turn_undone : remaining ≢ 0 → (k : ℕ) → Ready started progress next k → threads ≤ k → (before : List ℤ)
      → before ≡ back_of items (get_or levels (d - 1) no_level).undo
      → Running needs h budget started path levels (d - 1)
      (situation before (get_or levels (d - 1) no_level).held (set progress (get_or path (d - 1) 0) (get_or progress (get_or path (d - 1) 0) 0 - 1)))
      (get_or levels (d - 1) no_level).left (get_or path (d - 1) 0 + 1) n
  turn_undone unfinished k r over before e = rw (e, add-one (get_or path (d - 1) 0)) (record {
    going = go d refl some-above (at_k g unfinished k r);
    left_is = can.left_before;
    sized = g.sized;
    shape = g.shape;
    counts = g.counts;
    path_long = g.path_long;
    levels_long = g.levels_long;
  })
    where
      go : (m : ℕ) → m ≡ d → m ≢ 0 → Goes needs h budget path levels m top k n
          → Goes needs h budget path levels (m - 1) (undone (lv_of path levels (m - 1)) top) (suc (get_or path (m - 1) 0)) n
      go zero y z w = absurd (z refl)
      go (suc m) y z w =
          let q : suc m - 1 ≡ m = omega arith in
          let p : d - 1 ≡ m = omega arith in
          let l : get_or path m 0 < threads = rw p at back_low in
          rw q
          (going_back (S needs h) (G needs h) (U needs h) none_stored m w (still g unfinished) (omega (arith, r.below, rows_many needs h))
          (rw (rows_many needs h) l))
