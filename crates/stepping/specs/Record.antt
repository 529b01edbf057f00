-- The record that both testers share: what it holds, and the ways in which events change it.
use Rattle.std.specs.Prelude.{ℕ, ◌+◌, Bool, true, false, List, [], ◌∷◌, get_or, set, take, replicate, eqb, Option, Some, None}
use Rattle.values.specs.Value.{pick}
use Rattle.values.specs.Sizes.{threads, capacity}
use Rattle.families.specs.Objects.{no_op}
use Rattle.families.specs.declared.Object.{Object}
use Rattle.families.specs.declared.Op.{Op}
use Rattle.families.specs.declared.Ret.{Ret}
use Rattle.stepping.specs.declared.histories.Operation.{Operation}
use Rattle.stepping.specs.declared.histories.History.{History}

-- an operation of a thread, in flight or returned
abbrev pub operation : ℕ → Op → Option Ret → Operation
operation t op outcome = record { thread = t; op = op; outcome = outcome }

-- what stands in a place that was never taken
abbrev pub blank_operation : Operation
blank_operation = operation 0 no_op None

-- the operations that are held, in the order of their invocations; the places behind them count for nothing
abbrev pub held : History → List Operation
held h = take h.count h.ops

-- the operation at a place
abbrev pub operation_at : History → ℕ → Operation
operation_at h i = get_or h.ops i blank_operation

-- a history of an initial object with nothing recorded
unfoldable pub fresh : Object → History
fresh start = record {
  start = start;
  ops = replicate capacity blank_operation;
  count = 0;
  done = replicate threads 0;
  valid = true;
}

-- in flight
unfoldable pub is_pending : Option Ret → Bool
is_pending None = true
is_pending (Some r) = false

-- an operation of thread t in flight
unfoldable pub flying_by : ℕ → Operation → Bool
flying_by t o = pick (eqb o.thread t) (is_pending o.outcome) false

-- the place of the first operation of thread t in flight, counted from i
unfoldable pub flying_from : ℕ → ℕ → List Operation → Option ℕ
flying_from t i [] = None
flying_from t i (o ∷ os) = pick (flying_by t o) (Some i) (flying_from t (i + 1) os)

-- the place of thread t's operation in flight
unfoldable pub find_flying : ℕ → History → Option ℕ
find_flying t h = flying_from t 0 (held h)

-- validity goes off, and the rest is kept
abbrev pub invalidated : History → History
invalidated h = record { start = h.start; ops = h.ops; count = h.count; done = h.done; valid = false }

-- one more operation, of thread t, in flight
abbrev pub extended : History → ℕ → Op → History
extended h t op = record {
  start = h.start;
  ops = set h.ops h.count (operation t op None);
  count = h.count + 1;
  done = h.done;
  valid = h.valid;
}

-- the operation at place i, of thread t, has returned
abbrev pub completed : History → ℕ → ℕ → Ret → History
completed h i t ret = record {
  start = h.start;
  ops = set h.ops i (operation (operation_at h i).thread (operation_at h i).op (Some ret));
  count = h.count;
  done = set h.done t (get_or h.done t 0 + 1);
  valid = h.valid;
}
