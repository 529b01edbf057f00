-- The search loop's invariant: how it begins, what is answered where it ends, and what an attempt that is turned away does to it.
use Rattle.std.specs.Prelude.{ℕ, ◌≡◌, true, length, ℤ}
use mathlib.Core.List.{List}
use Rattle.theory.specs.Store.{none_stored}
use Rattle.theory.specs.Going.{Going, start_of}
use Rattle.history.specs.Left.{left}
use Rattle.values.specs.Sizes.{capacity}
use Rattle.families.specs.Families.{families}
use Rattle.values.specs.declared.held.Held.{Held}
use Rattle.stepping.specs.declared.histories.History.{History}
use Rattle.stepping.specs.Shape.{shape_of}
use Rattle.recording_meaning.specs.Reading.{Sized, rows_of}
use Rattle.judging.specs.declared.search.Level.{Level}
use Rattle.judging.specs.Places.{Started}
use Rattle.judging.specs.Playing.{Situation, situation, origin}
use Rattle.judging.specs.SearchMachine.{lv_of, S, G, U}

-- The loop goes as the machine does from the origin.
abbrev pub Goes : (ℕ → List ℕ) → History → ℕ → List ℕ → List Level → ℕ → Situation → ℕ → ℕ → Type 0
Goes needs h budget path levels d s next n =
    Going (S needs h) (G needs h) (U needs h) none_stored (start_of (S needs h) (G needs h) (U needs h) (origin h)) 0 budget (lv_of path levels) d s next n tt

-- The invariant: d operations are placed, `next` is the thread to try, and n attempts are made.
pub record Running (needs : ℕ → List ℕ) (h : History) (budget : ℕ) (started path : List ℕ) (levels : List Level) (d : ℕ) (s : Situation)
    (remaining next n : ℕ) : Type 0 where
  pub going : Goes needs h budget path levels d s next n
  pub left_is : remaining ≡ left families (rows_of needs h) s.progress
  pub sized : Sized h
  pub shape : shape_of h ≡ true
  pub counts : Started h started
  pub path_long : length path ≡ capacity
  pub levels_long : length levels ≡ capacity

module _ {needs : ℕ → List ℕ} {h : History} {budget : ℕ} {started path : List ℕ} {levels : List Level} {d : ℕ} {items : List ℤ} {held : Held}
    {progress : List ℕ} {remaining next n : ℕ}
    (g : Running needs h budget started path levels d (situation items held progress) remaining next n) where
  abbrev pub s : Situation
  s = situation items held progress
