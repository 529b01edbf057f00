-- What the code works out of a record on its way, in the code's own steps. What counts stands in Shape; the proofs tie these to it.
use Rattle.std.specs.Prelude.{ℕ, zero, suc, ◌-◌, Bool, true, false, List, [], ◌∷◌, get_or, set, replicate, leb, eqb, is_none, Option, Some, None, is_ok}
use Rattle.values.specs.Value.{pick}
use Rattle.values.specs.Sizes.{threads, capacity}
use Rattle.families.specs.Refusals.{start_check}
use Rattle.families.specs.declared.Kind.{Kind}
use Rattle.stepping.specs.declared.histories.Operation.{Operation}
use Rattle.stepping.specs.declared.histories.History.{History}
use Rattle.stepping.specs.Record.{find_flying}
use Rattle.stepping.specs.Shape.{all_below, operation_fits}
use Rattle.families.specs.declared.Ret.{Ret}

-- the sizes

unfoldable pub sizes_fit : Bool → ℕ → Kind → Bool
sizes_fit noted count k = pick noted (pick (leb count capacity) (is_ok (start_check k)) false) false

-- one in flight ends its thread; one that has returned is among those still to come

abbrev pub counts_by : Option Ret → ℕ → Bool
counts_by None left = true
counts_by (Some r) left = pick (eqb left 0) false true

unfoldable pub goes_on : List ℕ → List (Option ℕ) → Operation → Bool
goes_on left flying o = pick (is_none (get_or flying o.thread None)) (counts_by o.outcome (get_or left o.thread 0)) false

unfoldable pub counts_in : Kind → List ℕ → List (Option ℕ) → Operation → Bool
counts_in k left flying o = pick (operation_fits k o) (goes_on left flying o) false

abbrev pub left_by : Option Ret → List ℕ → ℕ → List ℕ
left_by None left t = left
left_by (Some r) left t = set left t (get_or left t 0 - 1)

unfoldable pub left_after : List ℕ → Operation → List ℕ
left_after left o = left_by o.outcome left o.thread

abbrev pub flying_by : Option Ret → ℕ → List (Option ℕ) → ℕ → List (Option ℕ)
flying_by None i flying t = set flying t (Some i)
flying_by (Some r) i flying t = flying

unfoldable pub flying_after : ℕ → List (Option ℕ) → Operation → List (Option ℕ)
flying_after i flying o = flying_by o.outcome i flying o.thread

-- nothing is left of any thread
unfoldable pub none_left : List ℕ → Bool
none_left left = all_below (λ t. eqb (get_or left t 0) 0) threads

-- What the pass finds: where the history is in shape, a mark for each thread, the place of its operation in flight; nothing where it is not.

-- the marks of n threads from thread t on
unfoldable pub marks_from : ℕ → ℕ → History → List (Option ℕ)
marks_from t zero h = []
marks_from t (suc n) h = find_flying t h ∷ marks_from (suc t) n h

unfoldable pub look_of : Bool → History → Option (List (Option ℕ))
look_of true h = Some (marks_from 0 threads h)
look_of false h = None

-- those marks, and none where there is nothing
abbrev pub marks_in : Option (List (Option ℕ)) → List (Option ℕ)
marks_in (Some flying) = flying
marks_in None = replicate threads None
