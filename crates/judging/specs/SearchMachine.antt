-- The search's machine over arrays, as an instance of the loop with undo: its states are situations of the search, and a level takes one back.
use Rattle.std.specs.Prelude.{ℕ, ◌+◌, ◌-◌, ◌≤◌, ◌<◌, ◌≡◌, Bool, true, false, List, length, get_or, set, pos, Ok}
use Rattle.std.proofs.Common.{sym, ap, ◌∙◌, subst, arith}
use Rattle.std.proofs.Math.Option.{Option, none, some}
use Rattle.theory.specs.Space.{idle, refused, place, Space}
use Rattle.theory.specs.Undoing.{Ground, Undoing}
use Rattle.history.specs.Space.{Node, next, met, gives, placing, space, size}
use Rattle.history.specs.Moves.{falls}
use Rattle.history.specs.Left.{left}
use Rattle.history.proofs.Left.{spent}
use Rattle.history.specs.Space.{unplaced}
use Rattle.values.specs.Sizes.{threads, capacity, room}
use Rattle.families.specs.Families.{families, State, answers, right}
use Rattle.values.specs.Held.{held}
use Rattle.families.specs.Placing.{kind_of, answer_of, right_of, fits_of, given_of, back_of}
use Rattle.families.specs.Refusals.{op_belongs}
use Rattle.families.specs.Room.{Room, room_fits}
use Rattle.families.specs.States.{state_of, placing_answers, placing_right, placing_leaves}
use Rattle.families.specs.declared.Ret.{Ret}
use Rattle.stepping.specs.declared.histories.History.{History}
use Rattle.stepping.specs.Record.{operation_at}
use Rattle.stepping.specs.Shape.{shape_of}
use Rattle.recording_meaning.specs.Reading.{Sized, return_in, rows_of}
use Rattle.recording_meaning.specs.ShapeExactly.{shape_exactly}
use Rattle.judging.specs.declared.search.Level.{Level}
use Rattle.judging.specs.Places.{places_of}
use Rattle.judging.specs.PlacesLaws.{places_below}
use Rattle.judging.specs.Playing.{Situation, situation, origin, onward, given_to}
use Rattle.judging.specs.Rowing.{more_set, entry_at, next_none, next_some}
use Rattle.judging.specs.Giving.{fits_gives, misfit_gives}

-- A level, with its thread.
pub record Lv : Type 0 where
  pub thread : ℕ
  pub level : Level

-- what stands in a level that was never taken
abbrev pub no_level : Level
no_level = record { held = held (pos 0) 0; undo = record { cell = 0; was = pos 0 }; left = 0 }

-- the levels in the code's arrays
abbrev pub lv_of : List ℕ → List Level → ℕ → Lv
lv_of path levels i = record { thread = get_or path i 0; level = get_or levels i no_level }

-- the state before a level
abbrev pub undone : Lv → Situation → Situation
undone l s = situation (back_of s.items l.level.undo) l.level.held (set s.progress l.thread (get_or s.progress l.thread 0 - 1))

module _ (needs : ℕ → List ℕ) (h : History) where
  -- the situation of history's space that a state stands for

  abbrev pub object_of : Situation → State
  object_of s = state_of (kind_of h.start.kind s.held) s.items

  abbrev pub node_of : Situation → Node families
  node_of s = record { progress = s.progress; object = object_of s }

  -- what holds of a state with d levels above it
  pub record Fits (d : ℕ) (s : Situation) : Type 0 where
    pub roomy : Room h.start.kind s.held (unplaced (rows_of needs h) s.progress)
    pub deep : d + unplaced (rows_of needs h) s.progress ≤ capacity
    pub items_long : length s.items ≡ room
    pub progress_long : length s.progress ≡ threads
    pub begins : d ≡ 0 → s ≡ origin h

  -- what lets a level be undone: placing the same again leads back
  pub record Can (l : Lv) (s : Situation) : Type 0 where
    pub low : l.thread < threads
    pub some_placed : 0 < get_or s.progress l.thread 0
    pub had : get_or (undone l s).progress l.thread 0 < length (places_of h l.thread)
    pub left_before : l.level.left ≡ left families (rows_of needs h) (undone l s).progress
    pub again : onward h (undone l s) l.thread ≡ s

  -- the space that is searched, and the loop in it

  abbrev pub S : Space Ret
  S = space families (rows_of needs h)

  abbrev pub G : Ground S
  G = record { size = size families (rows_of needs h); falls = falls families (rows_of needs h); spent = spent families (rows_of needs h) }

  abbrev pub U : Undoing S
  U = record {
    St = Situation;
    Lv = Lv;
    node = node_of;
    thread = λ l. l.thread;
    label = λ l b. (given_to h b l.thread).ret;
    undone = undone;
    Fits = Fits;
    Can = Can;
  }

  -- what a thread can do in a state
  module _ (sized : Sized h) (shape : shape_of h ≡ true) (s : Situation) (d : ℕ) (f : Fits d s) (t : ℕ) (low : t < threads) where
    pub move_idle : length (places_of h t) ≤ get_or s.progress t 0 → S.move (node_of s) t ≡ idle
    move_idle k = rw (next_none needs h sized shape t s.progress low f.progress_long k)

    module _ (has : get_or s.progress t 0 < length (places_of h t)) (i : ℕ) (at : get_or (places_of h t) (get_or s.progress t 0) 0 ≡ i) where
      pub is_next : next (rows_of needs h) s.progress t ≡ some (entry_at needs h i)
      is_next = next_some needs h sized shape t s.progress low f.progress_long has ∙ ap (λ (j : ℕ). some (entry_at needs h j)) at

      pub below : i < h.count
      below = subst (λ (j : ℕ). j < h.count) at (places_below h t h.count (get_or s.progress t 0) has)

      pub own : op_belongs h.start.kind (operation_at h i).op ≡ Ok tt
      own = ((shape_exactly h sized).1 shape).own_op i below

      same_answer : answer_of s.items s.held (operation_at h i).op ≡ answers (object_of s) (operation_at h i).op
      same_answer = placing_answers s.items f.items_long h.start.kind (operation_at h i).op own s.held

      same_right : (r : Ret) → right_of s.items s.held (operation_at h i).op r ≡ right (object_of s) (operation_at h i).op r
      same_right = placing_right s.items f.items_long h.start.kind (operation_at h i).op own s.held

      pub move_open : S.move (node_of s) t ≡ idle → ⊥
      move_open e =
          go (met (needs i) s.progress) (gives families (object_of s) (operation_at h i).op (return_in (operation_at h i).outcome)) (rw is_next at e)
        where
          go : (b : Bool) (g : Option Ret) → placing families (node_of s) t (entry_at needs h i) b g ≡ idle → ⊥
          go false g e = let z : ◌≡◌ {A = ℕ} 0 1 = cc in omega arith
          go true none e = let z : ◌≡◌ {A = ℕ} 0 1 = cc in omega arith
          go true (some r) e = let z : ◌≡◌ {A = ℕ} 0 1 = cc in omega arith

      pub move_early : met (needs i) s.progress ≡ false → S.move (node_of s) t ≡ refused
      move_early e = rw (is_next, e)

      module _ (ready : met (needs i) s.progress ≡ true) where
        pub move_wrong : fits_of s.items s.held (operation_at h i).op (operation_at h i).outcome ≡ false → S.move (node_of s) t ≡ refused
        move_wrong e =
            rw (is_next, ready, misfit_gives s.items s.held (operation_at h i).op (object_of s) same_answer same_right (operation_at h i).outcome e)

        pub move_place : Room h.start.kind s.held 1 → fits_of s.items s.held (operation_at h i).op (operation_at h i).outcome ≡ true
            → S.move (node_of s) t ≡ place (given_to h s t).ret (node_of (onward h s t))
        move_place r e =
            let o = operation_at h i in
            rw (is_next, ready, fits_gives s.items s.held o.op (object_of s) same_answer same_right o.outcome e, at, more_set s.progress t)
            (ap
            (λ (x : State). place (given_of s.items s.held o.op o.outcome) (record { progress = (onward h s t).progress; object = x }))
            (sym (placing_leaves s.items f.items_long h.start.kind o.op own s.held (room_fits h.start.kind s.held o.op 0 own r))))
