-- What a judge answers of a tester: the verdict of the walk over the rows that the tester reads as, within a budget of attempts.
use Rattle.std.specs.Prelude.{ℕ, ◌-◌, Bool, true, false, List, ◌++◌, length, replicate}
use Rattle.theory.specs.Budget.{Verdict as Found, order, no_order, undecided, Judged}
use Rattle.theory.specs.Space.{Edge}
use Rattle.theory.specs.Undoing.{shown_by}
use Rattle.history.specs.Space.{Node}
use Rattle.history.specs.Budgets.{judged}
use Rattle.values.specs.Sizes.{capacity}
use Rattle.values.specs.Value.{pick}
use Rattle.families.specs.Families.{families}
use Rattle.families.specs.States.{state_of}
use Rattle.families.specs.Objects.{no_ret}
use Rattle.families.specs.declared.Ret.{Ret}
use Rattle.stepping.specs.declared.histories.History.{History}
use Rattle.recording_meaning.specs.Reading.{rows_of}
use Rattle.recording_meaning.specs.Models.{Model}
use Rattle.judging.specs.declared.answer.Answer.{Answer}
use Rattle.judging.specs.declared.answer.Placed.{Placed}
use Rattle.judging.specs.declared.answer.Verdict.{Verdict}
use Rattle.judging.specs.declared.answer.Verdict.TheVariants.{Order, NoOrder, Undecided, Invalid}

-- The number of a verdict in document 01.
unfoldable pub number_of : Verdict → ℕ
number_of Order = 0
number_of NoOrder = 1
number_of Undecided = 2
number_of Invalid = 3

-- An order explains the history, as far as the verdict tells.
unfoldable pub is_consistent : Verdict → Bool
is_consistent Order = true
is_consistent NoOrder = false
is_consistent Undecided = false
is_consistent Invalid = false

-- A place of an order: a thread, and the return that its operation has there.
abbrev pub placed : ℕ → Ret → Placed
placed t r = record { thread = t; ret = r }

-- What stands in a place behind an order.
abbrev pub nobody_there : Placed
nobody_there = placed 255 no_ret

-- An order in the places that an answer has.
abbrev pub padded : List Placed → List Placed
padded l = l ++ replicate (capacity - length l) nobody_there

abbrev pub with_order : ℕ → List Placed → Answer
with_order n l = record { verdict = Order; attempts = n; length = length l; order = padded l }

unfoldable pub without_order : Verdict → ℕ → Answer
without_order v n = record { verdict = v; attempts = n; length = 0; order = replicate capacity nobody_there }

-- A step of the walk over rows of the families.
abbrev pub Placement : Type 0
Placement = Edge Ret (Node families)

-- What the walk found, as an answer.

abbrev pub told : Found Placement → ℕ → Answer
told (order p) n = with_order n (shown_by placed p)
told no_order n = without_order NoOrder n
told undecided n = without_order Undecided n

unfoldable pub told_of : Judged Placement → Answer
told_of j = told j.verdict j.attempts

-- What the walk finds in a history with those notes, from its initial object on, within a budget.
unfoldable pub judged_of : (ℕ → List ℕ) → History → ℕ → Judged Placement
judged_of needs h b = judged families (rows_of needs h) b (state_of h.start.kind h.start.items)

-- What a judge answers of any tester whatever: Invalid and no attempts if it is out of shape or its history is invalid, and else what the walk finds.
unfoldable pub judge_with : {T : Type 0} → (T → Bool) → (T → History) → (T → ℕ → List ℕ) → T → ℕ → Answer
judge_with shaped history needs s b =
    pick (shaped s) (pick (history s).valid (told_of (judged_of (needs s) (history s) b)) (without_order Invalid 0)) (without_order Invalid 0)

abbrev pub judge_of : (M : Model) → M.Tester → ℕ → Answer
judge_of M = judge_with M.shaped M.history M.needs
