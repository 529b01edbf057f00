-- What each call on both testers hands back: the number and `len` of each, and both as the call leaves them.
use Rattle.std.specs.Prelude.{ℕ}
use Rattle.families.specs.declared.Object.{Object}
use Rattle.families.specs.declared.Op.{Op}
use Rattle.families.specs.declared.Ret.{Ret}
use Rattle.recording.specs.declared.consistency_tester.After.{After}
use Rattle.recording.specs.declared.linearizability.LinearizabilityTester.{LinearizabilityTester}
use Rattle.recording.specs.declared.sequential_consistency.SequentialConsistencyTester.{SequentialConsistencyTester}
use Rattle.stepping.specs.EventSteps.{number_of, made_number_of}
use Rattle.recording.specs.Testers.{new_sequential, sequential_invoke, sequential_return, sequential_invret, sequential_len}
use Rattle.recording.specs.Testers.{new_linearizability, linearizability_invoke, linearizability_return, linearizability_invret, linearizability_len}
use Rattle.testers.specs.declared.Testers.{Testers}
use Rattle.testers.specs.declared.Answer.{Answer}
use Rattle.testers.specs.declared.Answers.{Answers}

abbrev pub answer : ℕ → ℕ → Answer
answer number len = record { number = number; len = len }

abbrev pub both : LinearizabilityTester → SequentialConsistencyTester → Testers
both l s = record { linearizability = l; sequential = s }

abbrev pub joined_of : ℕ → LinearizabilityTester → ℕ → SequentialConsistencyTester → Answers
joined_of a l b s =
    record { linearizability = answer a (linearizability_len l); sequential = answer b (sequential_len s); testers = both l s }

abbrev pub recorded_of : After LinearizabilityTester → After SequentialConsistencyTester → Answers
recorded_of l s = joined_of (number_of l.recorded) l.tester (number_of s.recorded) s.tester

unfoldable pub new_of : Object → Answers
new_of start =
    joined_of (made_number_of (new_linearizability start).made) (new_linearizability start).tester (made_number_of (new_sequential start).made)
    (new_sequential start).tester

unfoldable pub invoke_of : Testers → ℕ → Op → Answers
invoke_of t thread op = recorded_of (linearizability_invoke t.linearizability thread op) (sequential_invoke t.sequential thread op)

unfoldable pub return_of : Testers → ℕ → Ret → Answers
return_of t thread ret = recorded_of (linearizability_return t.linearizability thread ret) (sequential_return t.sequential thread ret)

unfoldable pub invret_of : Testers → ℕ → Op → Ret → Answers
invret_of t thread op ret =
    recorded_of (linearizability_invret t.linearizability thread op ret) (sequential_invret t.sequential thread op ret)
