-- One step of recording in the code's own terms: what an event comes to, and what it changes. What counts stands in Record and EventSteps; Admitting ties these to it.
use Rattle.std.specs.Prelude.{ℕ, ◌+◌, ◌%◌, ◌<◌, ◌≤◌, ◌≡◌, refl, Bool, List, get_or, set, Option, Some, None, Result}
use Rattle.std.proofs.Common.{mod-eq_of_lt, arith}
use Rattle.std.proofs.lemmas.List.{set-get_or}
use Rattle.values.specs.Sizes.{threads, capacity}
use Rattle.families.specs.Refusals.{op_belongs, ret_belongs}
use Rattle.families.specs.declared.Kind.{Kind}
use Rattle.families.specs.declared.Op.{Op}
use Rattle.families.specs.declared.Ret.{Ret}
use Rattle.families.specs.declared.event.Event.{Event}
use Rattle.families.specs.declared.event.Event.TheVariants.{Invoked, Returned}
use Rattle.stepping.specs.declared.histories.Operation.{Operation}
use Rattle.stepping.specs.declared.histories.History.{History}
use Rattle.stepping.specs.declared.step.Step.{Step}
use Rattle.stepping.specs.declared.step.Change.{Change}
use Rattle.stepping.specs.Record.{operation, operation_at, extended, completed}
use Rattle.stepping.specs.EventSteps.{invoke_of, return_of}
use Rattle.stepping.specs.StepChecks.{place_in, place_at, admit_of, invoke_check, return_check}
use Rattle.stepping.specs.declared.recorded.Reason.{Reason}

-- an event of either kind, by what its own definition says
abbrev pub event_of : Bool → History → Event → Step
event_of shaped h (Invoked t op) = invoke_of shaped h t op
event_of shaped h (Returned t ret) = return_of shaped h t ret

unfoldable pub thread_of : Event → ℕ
thread_of (Invoked t op) = t
thread_of (Returned t ret) = t

-- what an event comes to, from what is known of the history
unfoldable pub comes_to : Bool → Bool → Kind → List (Option ℕ) → ℕ → Event → Result Unit Reason
comes_to shaped valid k flying count (Invoked t op) = invoke_check (admit_of shaped valid t (op_belongs k op)) (place_in flying t) count
comes_to shaped valid k flying count (Returned t ret) = return_check (admit_of shaped valid t (ret_belongs k ret)) (place_in flying t)

-- the place of its operation
unfoldable pub place_for : Event → List (Option ℕ) → ℕ → ℕ
place_for (Invoked t op) flying count = count
place_for (Returned t ret) flying count = place_at (place_in flying t)

-- what it changes
unfoldable pub change_of : Event → Operation → ℕ → ℕ → ℕ → Change
change_of (Invoked t op) o i count done = record {
  operation = operation (t % 256) op None;
  count = count % capacity + 1;
  done = done;
  mark = Some i;
}
change_of (Returned t ret) o i count done = record {
  operation = operation o.thread o.op (Some ret);
  count = count;
  done = done % 255 + 1;
  mark = None;
}

-- a history with a change at place i, of thread t
abbrev pub changed : History → ℕ → ℕ → Change → History
changed h i t c = record {
  start = h.start;
  ops = set h.ops i c.operation;
  count = c.count;
  done = set h.done t c.done;
  valid = h.valid;
}

-- the change that an event at place i makes to a history
abbrev pub change_at : History → Event → ℕ → Change
change_at h v i = change_of v (operation_at h i) i h.count (get_or h.done (thread_of v) 0)

-- The two changes are what the definitions say, for a thread, a place and counts in their bounds.

small : (a b : ℕ) → a < b → a % b ≡ a
small a b l = mod-eq_of_lt l

pub change_invoked : (h : History) (t : ℕ) (op : Op) → t < threads → h.count < capacity
    → changed h h.count t (change_at h (Invoked t op) h.count) ≡ extended h t op
unfolding change_of thread_of
change_invoked h t op l k = rw (small t 256 (omega (arith, l)), small h.count capacity k, set-get_or h.done t 0) refl

pub change_returned : (h : History) (i t : ℕ) (ret : Ret) → get_or h.done t 0 ≤ capacity
    → changed h i t (change_at h (Returned t ret) i) ≡ completed h i t ret
unfolding change_of thread_of
change_returned h i t ret l = rw (small (get_or h.done t 0) 255 (omega (arith, l))) refl

-- The thread and the mark that they leave.

pub thread_invoked : (h : History) (t : ℕ) (op : Op) (i : ℕ) → t < threads → (change_at h (Invoked t op) i).operation.thread ≡ t
unfolding change_of
thread_invoked h t op i l = small t 256 (omega (arith, l))

pub mark_invoked : (h : History) (t : ℕ) (op : Op) (i : ℕ) → (change_at h (Invoked t op) i).mark ≡ Some i
unfolding change_of
mark_invoked h t op i = refl

pub mark_returned : (h : History) (t : ℕ) (ret : Ret) (i : ℕ) → (change_at h (Returned t ret) i).mark ≡ None
unfolding change_of
mark_returned h t ret i = refl
