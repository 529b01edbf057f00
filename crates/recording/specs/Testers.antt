-- What each public call of the two testers hands back. Both put an operation in flight and complete it by calls of their
-- own; what a tester makes of these is said once, in Calls.
use Rattle.std.specs.Prelude.{ℕ, ◌*◌, Bool, true, List, replicate, is_ok}
use Rattle.values.specs.Value.{pick}
use Rattle.values.specs.Sizes.{threads, capacity}
use Rattle.families.specs.declared.Object.{Object}
use Rattle.families.specs.declared.Op.{Op}
use Rattle.families.specs.declared.Ret.{Ret}
use Rattle.stepping.specs.declared.histories.History.{History}
use Rattle.stepping.specs.declared.step.Step.{Step}
use Rattle.recording.specs.declared.consistency_tester.New.{New}
use Rattle.recording.specs.declared.consistency_tester.After.{After}
use Rattle.recording.specs.Calls.{in_turn, held_by}
use Rattle.recording.specs.declared.sequential_consistency.SequentialConsistencyTester.{SequentialConsistencyTester}
use Rattle.recording.specs.declared.linearizability.LinearizabilityTester.{LinearizabilityTester}
use Rattle.stepping.specs.Shape.{shaped_with}
use Rattle.shape.specs.Notes.{notes_in, notes_with}
use Rattle.stepping.specs.EventSteps.{begun_of, invoke_of, return_of}

-- the sequential tester: the history alone

abbrev pub sequential : History → SequentialConsistencyTester
sequential h = record { history = h }

unfoldable pub new_sequential : Object → New SequentialConsistencyTester
new_sequential start = record { made = (begun_of start).made; tester = sequential (begun_of start).history }

abbrev pub sequential_after : Step → After SequentialConsistencyTester
sequential_after s = record { recorded = s.recorded; tester = sequential s.history }

unfoldable pub sequential_invoke : SequentialConsistencyTester → ℕ → Op → After SequentialConsistencyTester
sequential_invoke t thread op = sequential_after (invoke_of (shaped_with true t.history) t.history thread op)

unfoldable pub sequential_return : SequentialConsistencyTester → ℕ → Ret → After SequentialConsistencyTester
sequential_return t thread ret = sequential_after (return_of (shaped_with true t.history) t.history thread ret)

abbrev pub sequential_invret : SequentialConsistencyTester → ℕ → Op → Ret → After SequentialConsistencyTester
sequential_invret = in_turn sequential_invoke sequential_return

abbrev pub sequential_held : SequentialConsistencyTester → History
sequential_held t = t.history

abbrev pub sequential_shaped : SequentialConsistencyTester → Bool
sequential_shaped t = shaped_with true t.history

abbrev pub sequential_len : SequentialConsistencyTester → ℕ
sequential_len = held_by sequential_shaped sequential_held

-- the linearizability tester: the history and its notes

abbrev pub linearizability : History → List ℕ → LinearizabilityTester
linearizability h notes = record { history = h; notes = notes }

unfoldable pub new_linearizability : Object → New LinearizabilityTester
new_linearizability start = record { made = (begun_of start).made; tester = linearizability (begun_of start).history (replicate (capacity * threads) 0) }

abbrev pub notes_shaped : LinearizabilityTester → Bool
notes_shaped t = notes_in t.history t.notes

-- both the history and its notes in shape
abbrev pub shaped_tester : LinearizabilityTester → Bool
shaped_tester t = shaped_with (notes_shaped t) t.history

-- an invocation that is taken gets the place behind the operations held
abbrev pub notes_after : LinearizabilityTester → ℕ → Step → List ℕ
notes_after t thread s =
    pick (is_ok s.recorded) (notes_with t.history.done thread t.history.count t.notes threads) t.notes

abbrev pub linearizability_after : Step → List ℕ → After LinearizabilityTester
linearizability_after s notes = record { recorded = s.recorded; tester = linearizability s.history notes }

abbrev pub invoked_by : LinearizabilityTester → ℕ → Step → After LinearizabilityTester
invoked_by t thread s = linearizability_after s (notes_after t thread s)

unfoldable pub linearizability_invoke : LinearizabilityTester → ℕ → Op → After LinearizabilityTester
linearizability_invoke t thread op = invoked_by t thread (invoke_of (shaped_tester t) t.history thread op)

unfoldable pub linearizability_return : LinearizabilityTester → ℕ → Ret → After LinearizabilityTester
linearizability_return t thread ret = linearizability_after (return_of (shaped_tester t) t.history thread ret) t.notes

abbrev pub linearizability_invret : LinearizabilityTester → ℕ → Op → Ret → After LinearizabilityTester
linearizability_invret = in_turn linearizability_invoke linearizability_return

abbrev pub linearizability_held : LinearizabilityTester → History
linearizability_held t = t.history

abbrev pub linearizability_noted : LinearizabilityTester → List ℕ
linearizability_noted t = t.notes

abbrev pub linearizability_len : LinearizabilityTester → ℕ
linearizability_len = held_by shaped_tester linearizability_held
