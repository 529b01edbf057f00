-- The traces of document 01 that are proved of the meanings: what each draws from a fresh tester, and what a judge then answers.
use Rattle.std.specs.Prelude.{ℕ, ◌-◌, ◌^◌, ◌≡◌, List, [], ◌∷◌, ◌++◌, map, length, replicate, pos, None}
use Rattle.history.specs.Events.{Events, invoked, returned}
use Rattle.families.specs.Objects.{zeros, new_register, new_once, new_stack}
use Rattle.families.specs.Families.{families}
use Rattle.families.specs.declared.Object.{Object}
use Rattle.families.specs.declared.Op.{Op}
use Rattle.families.specs.declared.Op.TheVariants.{Register as ORegister, WORegister as OWORegister, Vec as OVec}
use Rattle.families.specs.declared.Ret.{Ret}
use Rattle.families.specs.declared.Ret.TheVariants.{Register as RRegister, WORegister as RWORegister, Vec as RVec}
use Rattle.objects.specs.declared.register.RegisterOp.TheVariants.{Write, Read}
use Rattle.objects.specs.declared.register.RegisterRet.TheVariants.{WriteOk, ReadOk}
use Rattle.objects.specs.declared.write_once_register.WORegisterOp.TheVariants.{Write as OnceWrite}
use Rattle.objects.specs.declared.write_once_register.WORegisterRet.TheVariants.{WriteOk as OnceWriteOk}
use Rattle.objects.specs.declared.vec.VecOp.TheVariants.{Push, Pop}
use Rattle.objects.specs.declared.vec.VecRet.TheVariants.{PushOk, PopOk}
use Rattle.stepping.specs.EventSteps.{number_of}
use Rattle.recording_meaning.specs.Models.{Model, sequential_model, linearizability_model}
use Rattle.recording_meaning.specs.Inputs.{invoke, Inputs, as_inputs, events_in, invocations_in, feed, drawn}
use Rattle.judging.specs.declared.answer.Answer.{Answer}
use Rattle.judging.specs.declared.answer.Placed.{Placed}
use Rattle.judging.specs.declared.answer.Verdict.{Verdict}
use Rattle.judging.specs.declared.answer.Verdict.TheVariants.{Order, NoOrder, Undecided, Invalid}
use Rattle.judging.specs.Answers.{placed, padded, judge_of}

-- Inputs in time, fed to a fresh tester of an initial object; the number that each draws; and `len` after them.
pub record Trace : Type 0 where
  pub start : Object
  pub inputs : Inputs
  pub numbers : List ℕ
  pub len : ℕ

-- A trace, the model and the budget that it is judged by, and what the judge answers: the verdict, the order and the attempts.
pub record Expectation : Type 1 where
  pub trace : Trace
  pub model : Model
  pub budget : ℕ
  pub verdict : Verdict
  pub order : List Placed
  pub attempts : ℕ

-- What comes of a trace: the numbers drawn, `len`, and the judge's answer.
pub record Outcome : Type 0 where
  pub numbers : List ℕ
  pub len : ℕ
  pub answer : Answer

-- What is expected; in the answer nobody stands behind the order.
abbrev pub expected : Expectation → Outcome
expected x = record {
  numbers = x.trace.numbers;
  len = x.trace.len;
  answer = record { verdict = x.verdict; attempts = x.attempts; length = length x.order; order = padded x.order };
}

-- What the meanings give: recording from fresh, input by input, and then the judge.
abbrev pub found : Expectation → Outcome
found x =
    let fresh = x.model.new x.trace.start in
    let fed = feed x.model fresh x.trace.inputs in
    record {
      numbers = map number_of (drawn x.model fresh x.trace.inputs);
      len = x.model.len fed;
      answer = judge_of x.model fed x.budget;
    }

-- The claim: entry by entry, what is found is what is expected.
abbrev pub AllHold : List Expectation → Type 0
AllHold xs = map found xs ≡ map expected xs

-- Operations and returns.

abbrev read : Op
read = ORegister Read

abbrev write : ℕ → Op
write v = ORegister (Write (pos v))

abbrev write_ok : Ret
write_ok = RRegister WriteOk

abbrev read_ok : ℕ → Ret
read_ok v = RRegister (ReadOk (pos v))

abbrev once : ℕ → Op
once v = OWORegister (OnceWrite (pos v))

abbrev once_ok : Ret
once_ok = RWORegister OnceWriteOk

abbrev push : ℕ → Op
push v = OVec (Push (pos v))

abbrev push_ok : Ret
push_ok = RVec PushOk

abbrev pop : Op
pop = OVec Pop

abbrev pop_nothing : Ret
pop_nothing = RVec (PopOk None)

-- The traces.

-- The register starts at 65.
abbrev register : Object
register = new_register (pos 65)

-- Every event is recorded.
abbrev recorded : Object → Events families → Trace
recorded start l = record { start = start; inputs = as_inputs l; numbers = replicate (length l) 0; len = invocations_in l }

-- 1. Empty.
abbrev trace_1 : Trace
trace_1 = recorded register []

-- 2. One Read in flight only.
abbrev trace_2 : Trace
trace_2 = recorded register (invoked 0 read ∷ [])

-- 3. T0 invokes Read; T1 writes 66, WriteOk.
abbrev trace_3 : Trace
trace_3 = recorded register (invoked 0 read ∷ invoked 1 (write 66) ∷ returned 1 write_ok ∷ [])

-- 4. T1 writes 66, WriteOk; T0 then invokes Read, pending.
abbrev trace_4 : Trace
trace_4 = recorded register (invoked 1 (write 66) ∷ returned 1 write_ok ∷ invoked 0 read ∷ [])

-- 5. T0 writes 66, done; T1 reads 65, done.
abbrev trace_5 : Trace
trace_5 = recorded register (invoked 0 (write 66) ∷ returned 0 write_ok ∷ invoked 1 read ∷ returned 1 (read_ok 65) ∷ [])

-- 6. Trace 5, with a budget.
abbrev trace_6 : Trace
trace_6 = trace_5

-- 7. T0 reads 66, done.
abbrev trace_7 : Trace
trace_7 = recorded register (invoked 0 read ∷ returned 0 (read_ok 66) ∷ [])

-- 7, second part. T1 then writes 66, done.
abbrev trace_7_then : Trace
trace_7_then = recorded register (events_in trace_7.inputs ++ (invoked 1 (write 66) ∷ returned 1 write_ok ∷ []))

-- 8. Write-once from nothing, overlapping writes 5 and 6 by T0 and T1, both WriteOk.
abbrev trace_8 : Trace
trace_8 = recorded (new_once None) (invoked 0 (once 5) ∷ invoked 1 (once 6) ∷ returned 0 once_ok ∷ returned 1 once_ok ∷ [])

-- 9. Empty stack, overlapping Push(1) by T0 and Pop nothing by T1.
abbrev trace_9 : Trace
trace_9 = recorded (new_stack zeros 0) (invoked 0 (push 1) ∷ invoked 1 pop ∷ returned 0 push_ok ∷ returned 1 pop_nothing ∷ [])

-- 10. T0 invokes Read, then Write(1): answer 4, `len` 1; any later event 1, by whichever call.
abbrev pub trace_10 : Inputs → Trace
trace_10 later = record {
  start = register;
  inputs = invoke 0 read ∷ invoke 0 (write 1) ∷ later;
  numbers = 0 ∷ 4 ∷ replicate (length later) 1;
  len = 1;
}

-- What is expected.

-- Where document 01 names no budget, it covers the search: the greatest one.
abbrev pub covers : ℕ
covers = 2 ^ 64 - 1

-- An entry: model, trace, budget, verdict, order, attempts.
abbrev pub expect : Model → Trace → ℕ → Verdict → List Placed → ℕ → Expectation
expect m e b v p n = record { trace = e; model = m; budget = b; verdict = v; order = p; attempts = n }

abbrev sequential : Trace → ℕ → Verdict → List Placed → ℕ → List Expectation
sequential e b v p n = expect sequential_model e b v p n ∷ []

abbrev linearizable : Trace → ℕ → Verdict → List Placed → ℕ → List Expectation
linearizable e b v p n = expect linearizability_model e b v p n ∷ []

-- of both models the same
abbrev both : Trace → ℕ → Verdict → List Placed → ℕ → List Expectation
both e b v p n = sequential e b v p n ++ linearizable e b v p n

-- The list: what is expected of each trace by model and budget, whatever the later inputs of trace 10 are.
abbrev pub traces : Inputs → List Expectation
traces later =
    both trace_1 0 Order [] 0
    ++ both trace_2 covers Order [] 0
    ++ both trace_3 covers Order (placed 0 (read_ok 65) ∷ placed 1 write_ok ∷ []) 2
    ++ linearizable trace_4 covers Order (placed 1 write_ok ∷ []) 2
    ++ sequential trace_4 covers Order (placed 0 (read_ok 65) ∷ placed 1 write_ok ∷ []) 2
    ++ linearizable trace_5 covers NoOrder [] 3
    ++ sequential trace_5 covers Order (placed 1 (read_ok 65) ∷ placed 0 write_ok ∷ []) 4
    ++ linearizable trace_6 2 Undecided [] 2
    ++ linearizable trace_6 3 NoOrder [] 3
    ++ both trace_7 covers NoOrder [] 1
    ++ sequential trace_7_then covers Order (placed 1 write_ok ∷ placed 0 (read_ok 66) ∷ []) 3
    ++ linearizable trace_7_then covers NoOrder [] 2
    ++ both trace_8 covers NoOrder [] 4
    ++ both trace_9 covers Order (placed 1 pop_nothing ∷ placed 0 push_ok ∷ []) 4
    ++ both (trace_10 later) covers Invalid [] 0
