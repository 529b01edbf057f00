-- What any tester makes of its own calls: the two in turn, and how many operations it holds.
use Rattle.std.specs.Prelude.{ℕ, Bool, is_ok}
use Rattle.values.specs.Value.{pick}
use Rattle.families.specs.declared.Op.{Op}
use Rattle.families.specs.declared.Ret.{Ret}
use Rattle.stepping.specs.declared.histories.History.{History}
use Rattle.recording.specs.declared.consistency_tester.After.{After}
use Rattle.stepping.specs.EventSteps.{size_of}

-- the two calls in turn; a refused invocation stands
unfoldable pub in_turn : {T : Type 0} → (T → ℕ → Op → After T) → (T → ℕ → Ret → After T) → T → ℕ → Op → Ret → After T
in_turn invoke return t thread op ret =
    pick (is_ok (invoke t thread op).recorded) (return (invoke t thread op).tester thread ret) (invoke t thread op)

-- how many operations it holds; none out of shape
unfoldable pub held_by : {T : Type 0} → (T → Bool) → (T → History) → T → ℕ
held_by shaped held t = size_of (shaped t) (held t)
