-- Number 9 of document 01, "record out of shape": for each cause in its row records that show it, and beside each the same record without the fault, so
-- that the fault is what is seen.
use Rattle.std.specs.Prelude.{ℕ, zero, suc, ◌+◌, ◌-◌, Bool, true, false, List, [], ◌∷◌, ◌++◌, map, length, replicate, pos, None}
use Rattle.values.specs.Sizes.{room, threads, capacity, start_room}
use Rattle.families.specs.declared.Op.{Op}
use Rattle.families.specs.declared.Op.TheVariants.{Register as ORegister, Vec as OVec}
use Rattle.families.specs.declared.Ret.{Ret}
use Rattle.families.specs.declared.Ret.TheVariants.{Register as RRegister, Vec as RVec}
use Rattle.objects.specs.declared.register.RegisterOp.TheVariants.{Read}
use Rattle.objects.specs.declared.register.RegisterRet.TheVariants.{ReadOk}
use Rattle.objects.specs.declared.vec.VecOp.TheVariants.{Pop}
use Rattle.objects.specs.declared.vec.VecRet.TheVariants.{PopOk}
use Rattle.recording.specs.declared.linearizability.LinearizabilityTester.{LinearizabilityTester}
use Rattle.recording_meaning.specs.Models.{sequential_model, linearizability_model}
use Rattle.judging.specs.Answers.{placed}
use Rattle.faults.specs.Records.{starting, filled, asked, returned, noting, flying, overtaken, held}
use Rattle.traces.specs.Faults.{Fault, AllShown, BareNine, stack, Full, Constructs}

abbrev read : Op
read = ORegister Read

abbrev zero_read : Ret
zero_read = RRegister (ReadOk (pos 0))

abbrev pop : Op
pop = OVec Pop

abbrev popped : Ret
popped = RVec (PopOk None)

-- of a register; the neighbour takes an operation, and has no return to take
abbrev entry : Bool → LinearizabilityTester → LinearizabilityTester → ℕ → List ℕ → Fault
entry h bad good len order = record {
  fault = bad;
  beside = good;
  in_history = h;
  op = read;
  ret = zero_read;
  numbers = 0 ∷ 5 ∷ 0 ∷ [];
  len = len;
  order = map (λ t. placed t zero_read) order;
  attempts = length order;
}

abbrev in_record : LinearizabilityTester → LinearizabilityTester → ℕ → List ℕ → Fault
in_record = entry true

abbrev in_notes : LinearizabilityTester → LinearizabilityTester → ℕ → List ℕ → Fault
in_notes = entry false

-- of a stack with nothing recorded
abbrev in_start : ℕ → ℕ → Fault
in_start bad good = record {
  fault = starting bad;
  beside = starting good;
  in_history = true;
  op = pop;
  ret = popped;
  numbers = 0 ∷ 5 ∷ 0 ∷ [];
  len = 0;
  order = [];
  attempts = 0;
}

-- of a tester that is full
abbrev in_full : Bool → LinearizabilityTester → Fault
in_full h bad = record {
  fault = bad;
  beside = filled capacity 0;
  in_history = h;
  op = read;
  ret = zero_read;
  numbers = 6 ∷ 5 ∷ 6 ∷ [];
  len = capacity;
  order = replicate capacity (placed 0 zero_read);
  attempts = capacity;
}

-- the counter of thread t, of which nothing is held, says 1
abbrev counted : ℕ → Fault
counted t = in_record (returned 0 zero_read t 1) (returned 0 zero_read t 0) 1 (0 ∷ [])

-- an operation notes 1 of thread u, of which nothing is held
abbrev noted : ℕ → Fault
noted u = in_notes (noting 1 u 1) (noting 1 u 0) 2 (0 ∷ [])

-- so many threads, from one on
abbrev threads_from : ℕ → ℕ → List ℕ
threads_from t zero = []
threads_from t (suc n) = t ∷ threads_from (suc t) n

abbrev last_thread : ℕ
last_thread = threads - 1

abbrev pub faults : List Fault
faults =
    -- depth over 96, and, since it is a tester's initial stack, over 32
    in_start (room + 1) start_room
    ∷ in_start (start_room + 1) start_room
    -- more than 64 operations
    ∷ in_full true (filled (capacity + 1) 0)
    -- a thread above 7, of an operation in flight and of a completed one
    ∷ in_record (asked threads read 1) (asked last_thread read 1) 1 []
    ∷ in_record (returned threads zero_read threads 1) (returned last_thread zero_read last_thread 1) 1 (last_thread ∷ [])
    -- two families in one record: an operation, and a return
    ∷ in_record (asked 0 pop 1) (asked 0 read 1) 1 []
    ∷ in_record (returned 0 popped 0 1) (returned 0 zero_read 0 1) 1 (0 ∷ [])
    -- a note on the own thread
    ∷ in_notes (noting 0 0 1) (noting 0 0 0) 2 (0 ∷ [])
    -- a note on an operation not completed: the one after the last completed; one in flight; one that isn't there, of each thread; and the last of all notes
    ∷ in_notes (noting 1 0 2) (noting 1 0 1) 2 (0 ∷ [])
    ∷ in_notes (flying 1 1) (flying 1 0) 2 []
    ∷ map noted (threads_from 2 (threads - 2))
    ++ in_full false (filled capacity 1)
    -- two in flight on one thread
    ∷ in_record (flying 0 0) (flying 1 0) 2 []
    -- a stored count or place at odds with what is held: a completed operation that stands behind one of its thread in flight
    ∷ in_record (overtaken 0) (overtaken 1) 2 (0 ∷ 1 ∷ [])
    -- the counter of a thread, too high and too low; and of each of the others
    ∷ in_record (returned 0 zero_read 0 2) (returned 0 zero_read 0 1) 1 (0 ∷ [])
    ∷ in_record (returned 0 zero_read 0 0) (returned 0 zero_read 0 1) 1 (0 ∷ [])
    ∷ map counted (threads_from 1 (threads - 1))
    -- the count of operations, too low, so that a completed one is left out; and too high, so that a place never taken is one of them
    ++ in_record (held 1) (held 2) 2 (0 ∷ 1 ∷ [])
    ∷ in_record (asked 0 read 2) (asked 0 read 1) 1 []
    ∷ []

-- The one claim.
pub record NineShown : Type 0 where
  pub testers : AllShown faults
  pub bare : BareNine (stack (room + 1))
  pub full : Full (stack room)
  pub linearizability : Constructs linearizability_model
  pub sequential : Constructs sequential_model
