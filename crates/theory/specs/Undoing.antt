-- The loop with undo: it keeps one state alone, and each level above keeps what takes the state back to the one before it.
use Prim.Native.Nat.{ℕ, zero, suc, ◌+◌, ◌<◌}
use Rattle.std.specs.Prelude.{◌≡◌, List, [], ◌∷◌, length}
use Rattle.std.proofs.Math.Path.{refl}
use Rattle.std.proofs.Common.{sym}
use native.Mathlib.Omega.{arith}
use Rattle.theory.specs.Space.{idle, Space, Edge, Step, Falls}
use Rattle.theory.specs.Machine.{trail}
use Rattle.theory.specs.Loop.{Frame, levels}

-- what a space needs for the loop to go through it: a size that each step makes one less, and at size 0 no thread has anything left
pub record Ground {L : Type 0} (S : Space L) : Type 0 where
  pub size : S.Node → ℕ
  pub falls : Falls S size
  pub spent : (x : S.Node) → size x ≡ 0 → (t : ℕ) → S.move x t ≡ idle

-- The states and the levels of a loop with undo: the situation of a state, the thread of a level and its label by the state before it, and the
-- state that undoing a level gives. Fits d: what holds of a state with d levels above it. Can: what lets a level be undone in a state.
pub record Undoing {L : Type 0} (S : Space L) : Type 1 where
  pub St : Type 0
  pub Lv : Type 0
  pub node : St → S.Node
  pub thread : Lv → ℕ
  pub label : Lv → St → L
  pub undone : Lv → St → St
  pub Fits : ℕ → St → Type 0
  pub Can : Lv → St → Type 0

-- steps, shown by what f makes of thread and label
abbrev pub shown_by : {L N A : Type 0} → (ℕ → L → A) → List (Edge L N) → List A
shown_by f [] = []
shown_by f (e ∷ p) = f e.thread e.label ∷ shown_by f p

module _ {L : Type 0} (S : Space L) (U : Undoing S) where
  -- the frame of a level, with the state b before it
  abbrev pub frame : U.Lv → U.St → Frame L S.Node
  frame l b = record { thread = U.thread l; label = U.label l b; before = U.node b }

  -- the frames above a state, by undoing its d levels from the last up
  unfoldable pub frames : (ℕ → U.Lv) → ℕ → U.St → List (Frame L S.Node)
  frames lv zero st = []
  frames lv (suc d) st = frame (lv d) (U.undone (lv d) st) ∷ frames lv d (U.undone (lv d) st)

  -- the state and each state above it fit, and each level can be undone
  unfoldable pub Fine : (ℕ → U.Lv) → ℕ → U.St → Type 0
  Fine lv zero st = U.Fits 0 st
  Fine lv (suc d) st = U.Fits (suc d) st × U.Can (lv d) st × Fine lv d (U.undone (lv d) st)

  -- the same first d levels
  abbrev pub Agree : ℕ → (ℕ → U.Lv) → (ℕ → U.Lv) → Type 0
  Agree d lv lw = (i : ℕ) → i < d → lv i ≡ lw i

  -- the levels from d on do not count

  pub frames_same : (lv lw : ℕ → U.Lv) (d : ℕ) (st : U.St) → Agree d lv lw → frames lw d st ≡ frames lv d st
  unfolding frames
  frames_same lv lw zero st h = refl
  frames_same lv lw (suc d) st h = rw (sym (h d (omega arith)), frames_same lv lw d (U.undone (lv d) st) (λ i k. h i (omega arith)))

  pub fine_same : (lv lw : ℕ → U.Lv) (d : ℕ) (st : U.St) → Agree d lv lw → Fine lv d st → Fine lw d st
  unfolding Fine
  fine_same lv lw zero st h f = f
  fine_same lv lw (suc d) st h f =
      rw (sym (h d (omega arith))) (f.0, f.1, fine_same lv lw d (U.undone (lv d) st) (λ i k. h i (omega arith)) f.2)

  pub fine_fits : (lv : ℕ → U.Lv) (d : ℕ) (st : U.St) → Fine lv d st → U.Fits d st
  unfolding Fine
  fine_fits lv zero st f = f
  fine_fits lv (suc d) st f = f.0

  -- the last level can be undone, and that gives a state that is fine and fits
  pub fine_parts : (lv : ℕ → U.Lv) (d : ℕ) (st : U.St) → Fine lv (suc d) st
      → U.Can (lv d) st × Fine lv d (U.undone (lv d) st) × U.Fits d (U.undone (lv d) st)
  unfolding Fine
  fine_parts lv d st f = (f.1, f.2, fine_fits lv d (U.undone (lv d) st) f.2)

  -- the steps of the d levels above a state, shown by f, and then p
  unfoldable pub shown_above : {A : Type 0} → (ℕ → L → A) → (ℕ → U.Lv) → ℕ → U.St → List A → List A
  shown_above f lv zero st p = p
  shown_above f lv (suc d) st p =
      let b = U.undone (lv d) st in shown_above f lv d b (f (U.thread (lv d)) (U.label (lv d) b) ∷ p)

  -- the steps that the machine took are those of the levels
  pub trail_shown : {A : Type 0} (size : S.Node → ℕ) (f : ℕ → L → A) (lv : ℕ → U.Lv) (d : ℕ) (st : U.St) (p : List (Step S))
      → shown_by f (trail (levels S size (U.node st) (frames lv d st)) p) ≡ shown_above f lv d st (shown_by f p)
  unfolding frames shown_above
  trail_shown size f lv zero st p = refl
  trail_shown size f lv (suc d) st p = trail_shown size f lv d (U.undone (lv d) st) _

  -- one step for each level
  pub shown_length : {A : Type 0} (f : ℕ → L → A) (lv : ℕ → U.Lv) (d : ℕ) (st : U.St) (p : List A)
      → length (shown_above f lv d st p) ≡ d + length p
  unfolding shown_above
  shown_length f lv zero st p = omega arith
  shown_length f lv (suc d) st p =
      let b = U.undone (lv d) st in
      omega (arith, shown_length f lv d b (f (U.thread (lv d)) (U.label (lv d) b) ∷ p))
