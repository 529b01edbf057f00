-- How a search ends: what the walk finds, told by a verdict, a depth, the attempts and a path.
use Rattle.std.specs.Prelude.{ℕ, ◌≤◌, ◌≡◌, List, take}
use Rattle.theory.specs.Budget.{order, no_order, undecided, Judged}
use Rattle.theory.specs.Undoing.{shown_by}
use Rattle.values.specs.Sizes.{capacity}
use Rattle.stepping.specs.declared.histories.History.{History}
use Rattle.judging.specs.declared.answer.Verdict.{Verdict}
use Rattle.judging.specs.declared.answer.Verdict.TheVariants.{Order, NoOrder, Undecided, Invalid}
use Rattle.judging.specs.declared.search.Stopped.{Stopped}
use Rattle.judging.specs.Answers.{Placement, placed}
use Rattle.judging.specs.Playing.{origin, played, Playable}

-- An order was found, and the first d threads of the path make it.
pub record FoundBy (j : Judged Placement) (h : History) (path : List ℕ) (d n : ℕ) : Type 0 where
  pub steps : List Placement
  pub is : j ≡ record { verdict = order steps; attempts = n }
  pub shown : shown_by placed steps ≡ played h (origin h) (take d path)
  pub within : d ≤ capacity
  pub playable : Playable h (origin h) (take d path)

abbrev pub Stopping : Judged Placement → History → List ℕ → Verdict → ℕ → ℕ → Type 0
Stopping j h path Order d n = FoundBy j h path d n
Stopping j h path NoOrder d n = j ≡ record { verdict = no_order; attempts = n }
Stopping j h path Undecided d n = j ≡ record { verdict = undecided; attempts = n }
Stopping j h path Invalid d n = ⊥

unfoldable pub Stops : Judged Placement → History → List ℕ → Stopped → Type 0
Stops j h path r = Stopping j h path r.verdict r.depth r.attempts
