-- Records that no calls make, for number 9 of document 01. Each definition is of records that differ in one thing: one has a fault, and its neighbour
-- has none. All are of a linearizability tester; a sequential one has the same history and no notes.
use Rattle.std.specs.Prelude.{ℕ, ◌+◌, ◌*◌, ◌-◌, true, List, set, replicate, pos, Some, None}
use Rattle.values.specs.Sizes.{threads, capacity}
use Rattle.families.specs.Objects.{zeros, new_register, new_stack}
use Rattle.families.specs.declared.Op.{Op}
use Rattle.families.specs.declared.Op.TheVariants.{Register as ORegister}
use Rattle.families.specs.declared.Ret.{Ret}
use Rattle.families.specs.declared.Ret.TheVariants.{Register as RRegister}
use Rattle.objects.specs.declared.register.RegisterOp.TheVariants.{Read}
use Rattle.objects.specs.declared.register.RegisterRet.TheVariants.{ReadOk}
use Rattle.stepping.specs.declared.histories.Operation.{Operation}
use Rattle.recording.specs.declared.linearizability.LinearizabilityTester.{LinearizabilityTester}
use Rattle.stepping.specs.Record.{operation, blank_operation}
use Rattle.recording.specs.Testers.{linearizability}

-- The parts of a record.

-- an operation of thread t in flight
abbrev pub calling : ℕ → Op → Operation
calling t op = operation t op None

-- a Read of thread t in flight
abbrev pub reading : ℕ → Operation
reading t = calling t (ORegister Read)

-- a Read of thread t with that return
abbrev pub answer : ℕ → Ret → Operation
answer t ret = operation t (ORegister Read) (Some ret)

-- a Read of 0 by thread t
abbrev pub read : ℕ → Operation
read t = answer t (RRegister (ReadOk (pos 0)))

-- how many each thread has completed: t n of them, then u m of them, and the others none
unfoldable pub counters : ℕ → ℕ → ℕ → ℕ → List ℕ
counters t n u m = set (set (replicate threads 0) t n) u m

-- no notes, but at one place
unfoldable pub one_note : ℕ → ℕ → List ℕ
one_note place note = set (replicate (capacity * threads) 0) place note

-- a register at 0; two operations, of which so many are held; what each thread is said to have completed; and the notes
unfoldable pub record_of : Operation → Operation → ℕ → List ℕ → List ℕ → LinearizabilityTester
record_of first second count done notes = linearizability (record {
  start = new_register (pos 0);
  ops = set (set (replicate capacity blank_operation) 0 first) 1 second;
  count = count;
  done = done;
  valid = true;
}) notes

-- The records.

-- nothing recorded, of a stack of depth d
unfoldable pub starting : ℕ → LinearizabilityTester
starting d = linearizability (record {
  start = new_stack zeros d;
  ops = replicate capacity blank_operation;
  count = 0;
  done = replicate threads 0;
  valid = true;
}) (replicate (capacity * threads) 0)

-- as many completed Reads of thread 0 as a tester holds, and the count that is said; the last one notes so many of the last thread
unfoldable pub filled : ℕ → ℕ → LinearizabilityTester
filled count note = linearizability (record {
  start = new_register (pos 0);
  ops = replicate capacity (read 0);
  count = count;
  done = counters 0 capacity 0 capacity;
  valid = true;
}) (one_note (capacity * threads - 1) note)

-- one operation in flight, and the count that is said
unfoldable pub asked : ℕ → Op → ℕ → LinearizabilityTester
asked t op count = record_of (calling t op) blank_operation count (counters 0 0 0 0) (one_note 0 0)

-- one Read of thread t with that return, counted, and the counter of thread u as it is said
unfoldable pub returned : ℕ → Ret → ℕ → ℕ → LinearizabilityTester
returned t ret u n = record_of (answer t ret) blank_operation 1 (counters t 1 u n) (one_note 0 0)

-- a completed Read of thread 0, and then one of thread t in flight that notes n of thread u
unfoldable pub noting : ℕ → ℕ → ℕ → LinearizabilityTester
noting t u n = record_of (read 0) (reading t) 2 (counters 0 1 0 1) (one_note (threads + u) n)

-- a Read of thread 0 in flight, and then one of thread t that notes n of thread 0
unfoldable pub flying : ℕ → ℕ → LinearizabilityTester
flying t n = record_of (reading 0) (reading t) 2 (counters 0 0 0 0) (one_note threads n)

-- a Read of thread 0 in flight, and then a completed one of thread t
unfoldable pub overtaken : ℕ → LinearizabilityTester
overtaken t = record_of (reading 0) (read t) 2 (counters t 1 t 1) (one_note 0 0)

-- completed Reads of threads 0 and 1, and the count that is said
unfoldable pub held : ℕ → LinearizabilityTester
held count = record_of (read 0) (read 1) count (counters 0 1 1 1) (one_note 0 0)
