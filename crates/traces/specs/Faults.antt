-- What document 01's row 9 says of records out of shape, of bare objects and of constructors; and what is to come, instead, of what has no fault.
use Rattle.std.specs.Prelude.{ℕ, ◌+◌, ◌-◌, ◌≡◌, Bool, true, false, List, [], ◌∷◌, ◌++◌, pos, Ok, Err}
use Rattle.values.specs.Sizes.{room, threads, start_room}
use Rattle.values.specs.Checks.{number_of as refusal_number}
use Rattle.families.specs.Objects.{zeros, new_stack}
use Rattle.families.specs.declared.Object.{Object}
use Rattle.families.specs.declared.Op.{Op}
use Rattle.families.specs.declared.Op.TheVariants.{Vec as OVec}
use Rattle.families.specs.declared.Ret.{Ret}
use Rattle.families.specs.declared.Ret.TheVariants.{Vec as RVec}
use Rattle.objects.specs.declared.vec.VecOp.TheVariants.{Push, Len}
use Rattle.objects.specs.declared.vec.VecRet.TheVariants.{PushOk, LenOk}
use Rattle.values.specs.declared.refusal.Refusal.TheVariants.{OutOfShape, NoRoom}
use Rattle.semantics.specs.Calls.{invoked, invoke_of, stepped, step_of}
use Rattle.semantics.specs.Histories.{Turn, history_of}
use Rattle.stepping.specs.Record.{fresh}
use Rattle.stepping.specs.EventSteps.{number_of, made_number_of}
use Rattle.recording.specs.declared.linearizability.LinearizabilityTester.{LinearizabilityTester}
use Rattle.recording.specs.declared.sequential_consistency.SequentialConsistencyTester.{SequentialConsistencyTester}
use Rattle.recording.specs.Testers.{sequential}
use Rattle.recording_meaning.specs.Models.{Model, sequential_model, linearizability_model}
use Rattle.judging.specs.declared.answer.Answer.{Answer}
use Rattle.judging.specs.declared.answer.Placed.{Placed}
use Rattle.judging.specs.declared.answer.Verdict.TheVariants.{Invalid}
use Rattle.judging.specs.Answers.{with_order, without_order, judge_of}
use Rattle.witness.specs.Words.{words_of}
use Rattle.witness.specs.Checking.{check_of}
use Rattle.traces.specs.Traces.{covers}

-- What is to come of a record out of shape: 9 from each call, whatever is asked, and the tester handed back as it came; `len` 0; verdict Invalid with 0
-- attempts under any budget; checker no, whatever is proposed.
pub record GetsNine (M : Model) (s : M.Tester) : Type 0 where
  pub on_invoke : (t : ℕ) (op : Op) → (number_of (M.on_invoke s t op).0 ≡ 9) × ((M.on_invoke s t op).1 ≡ s)
  pub on_return : (t : ℕ) (ret : Ret) → (number_of (M.on_return s t ret).0 ≡ 9) × ((M.on_return s t ret).1 ≡ s)
  pub on_invret : (t : ℕ) (op : Op) (ret : Ret) → (number_of (M.on_invret s t op ret).0 ≡ 9) × ((M.on_invret s t op ret).1 ≡ s)
  pub len : M.len s ≡ 0
  pub judged : (budget : ℕ) → judge_of M s budget ≡ without_order Invalid 0
  pub checked : (words : List ℕ) → check_of M s words ≡ false

-- A record with a fault, and its neighbour. What is asked of the neighbour: an operation and a return of a thread that has none; and what is to come of
-- it: the numbers that `on_invoke`, `on_return` and `on_invret` give, `len`, and the order with its attempts.
pub record Fault : Type 0 where
  pub fault : LinearizabilityTester
  pub beside : LinearizabilityTester
  -- the fault is in the history, so that a sequential tester has it too; or in the notes, which that one doesn't keep
  pub in_history : Bool
  pub op : Op
  pub ret : Ret
  pub numbers : List ℕ
  pub len : ℕ
  pub order : List Placed
  pub attempts : ℕ

-- What comes of a neighbour.
pub record Outcome : Type 0 where
  pub numbers : List ℕ
  pub len : ℕ
  pub answer : Answer
  pub accepted : Bool

-- An order as the checker takes it.
abbrev words : List Placed → List ℕ
words [] = []
words (p ∷ ps) = p.thread ∷ (words_of p.ret ++ words ps)

abbrev pub expected : Fault → Outcome
expected x = record { numbers = x.numbers; len = x.len; answer = with_order x.attempts x.order; accepted = true }

-- The thread that is asked for: the last but one.
abbrev asker : ℕ
asker = threads - 2

abbrev pub found : Fault → (M : Model) → M.Tester → Outcome
found x M s = record {
  numbers = number_of (M.on_invoke s asker x.op).0 ∷ number_of (M.on_return s asker x.ret).0 ∷ number_of (M.on_invret s asker x.op x.ret).0 ∷ [];
  len = M.len s;
  answer = judge_of M s covers;
  accepted = check_of M s (words x.order);
}

abbrev pub without_notes : LinearizabilityTester → SequentialConsistencyTester
without_notes s = sequential s.history

-- A fault in the notes is none of a sequential tester: it does what its neighbour does.
abbrev pub SequentialToo : Bool → Fault → Type 0
SequentialToo true x = GetsNine sequential_model (without_notes x.fault)
SequentialToo false x = found x sequential_model (without_notes x.fault) ≡ expected x

-- The claim on an entry.
pub record Shown (x : Fault) : Type 0 where
  pub nine : GetsNine linearizability_model x.fault
  pub nine_too : SequentialToo x.in_history x
  pub beside_is : found x linearizability_model x.beside ≡ expected x
  pub beside_too : found x sequential_model (without_notes x.beside) ≡ expected x

abbrev pub AllShown : List Fault → Type 0
AllShown [] = Unit {0}
AllShown (x ∷ xs) = Shown x × AllShown xs

-- Bare objects: depth over 96 gives 9 for `invoke`, for a step and for a history, even one of no steps, and the object as it came.
pub record BareNine (o : Object) : Type 0 where
  pub number : refusal_number OutOfShape ≡ 9
  pub invoking : (op : Op) → invoke_of o op ≡ invoked (Err OutOfShape) o
  pub stepping : (op : Op) (ret : Ret) → step_of o op ret ≡ stepped (Err OutOfShape) o
  pub walking : (ts : List Turn) → history_of o ts ≡ stepped (Err OutOfShape) o

abbrev pub stack : ℕ → Object
stack d = new_stack zeros d

-- The neighbour, a full stack: 7 for a Push, and all else goes on.
pub record Full (o : Object) : Type 0 where
  pub number : refusal_number NoRoom ≡ 7
  pub push : invoke_of o (OVec (Push (pos 1))) ≡ invoked (Err NoRoom) o
  pub push_ok : step_of o (OVec (Push (pos 1))) (RVec PushOk) ≡ stepped (Err NoRoom) o
  pub len : invoke_of o (OVec Len) ≡ invoked (Ok (RVec (LenOk room))) o
  pub len_ok : step_of o (OVec Len) (RVec (LenOk room)) ≡ stepped (Ok true) o
  pub no_steps : history_of o [] ≡ stepped (Ok true) o

-- A constructor given a stack of depth d gives a number, and leaves a fresh history of a stack of depth e.
pub record Makes (M : Model) (d n e : ℕ) : Type 0 where
  pub number : made_number_of (M.made (stack d)) ≡ n
  pub history : M.history (M.new (stack d)) ≡ fresh (stack e)

-- 9 comes before 8, and for both there is the empty stack.
pub record Constructs (M : Model) : Type 0 where
  pub nine : Makes M (room + 1) 9 0
  pub eight : Makes M room 8 0
  pub eight_too : Makes M (start_room + 1) 8 0
  pub made : Makes M start_room 0 start_room
