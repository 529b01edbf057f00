-- When each number is given, for any record. The order of the refusals is that of the lines: each says that none before it applies.
use Rattle.std.specs.Prelude.{ℕ, ◌<◌, ◌≤◌, ◌≡◌, Bool, true, false, Result, Ok, Err}
use Rattle.history.specs.Rows.{row}
use Rattle.history.specs.Recorder.{flying}
use Rattle.values.specs.Sizes.{threads, capacity}
use Rattle.families.specs.Refusals.{op_belongs, ret_belongs}
use Rattle.families.specs.RefusalsExactly.{StartWhen}
use Rattle.families.specs.Families.{families}
use Rattle.families.specs.declared.Object.{Object}
use Rattle.families.specs.declared.Op.{Op}
use Rattle.families.specs.declared.Ret.{Ret}
use Rattle.stepping.specs.declared.histories.History.{History}
use Rattle.stepping.specs.declared.recorded.Reason.TheVariants.{AlreadyInvalid, NoSuchThread, NotOwn, InFlight, NothingInFlight, Full, OutOfShape}
use Rattle.stepping.specs.Shape.{kind_of}
use Rattle.recording_meaning.specs.Models.{Model, tester_rows}
use Rattle.values.specs.declared.refusal.Refusal.{Refusal}
use Rattle.stepping.specs.declared.recorded.Reason.{Reason}

module _ (shaped : Bool) (h : History) (t : ℕ) (said : Result Unit Refusal) where
  -- None of the refusals 9, 1 and 2 applies to an event of thread t, and the object refuses nothing, saying `said` of it.
  pub record Admitted : Type 0 where
    pub in_shape : shaped ≡ true
    pub valid : h.valid ≡ true
    pub known : t < threads
    pub own : said ≡ Ok tt

module _ (M : Model) where
  -- A thread has an operation in flight.
  abbrev pub Busy : M.Tester → ℕ → Bool
  Busy s t = flying families (row families (tester_rows M s) t)

  -- What a tester's object says of an operation, and of a return.

  abbrev pub op_said : M.Tester → Op → Result Unit Refusal
  op_said s op = op_belongs (kind_of (M.history s)) op

  abbrev pub ret_said : M.Tester → Ret → Result Unit Refusal
  ret_said s ret = ret_belongs (kind_of (M.history s)) ret

-- When an admitted event is given each number that is left.
pub record Left : Type 1 where
  pub in_flight : Type 0
  pub nothing_in_flight : Type 0
  pub full : Type 0
  pub taken : Type 0

module _ (M : Model) (s : M.Tester) (t : ℕ) where
  -- A tester admits an event of thread t of which its object says `said`.
  abbrev pub Fine : Result Unit Refusal → Type 0
  Fine said = Admitted (M.shaped s) (M.history s) t said

  -- When an event is given each number.
  abbrev pub EventWhen : Result Unit Refusal → Left → Result Unit Reason → Type 0
  EventWhen said left (Err OutOfShape) = M.shaped s ≡ false
  EventWhen said left (Err AlreadyInvalid) = (M.shaped s ≡ true) × ((M.history s).valid ≡ false)
  EventWhen said left (Err NoSuchThread) = (M.shaped s ≡ true) × ((M.history s).valid ≡ true) × (threads ≤ t)
  EventWhen said left (Err (NotOwn r)) = (M.shaped s ≡ true) × ((M.history s).valid ≡ true) × (t < threads) × (said ≡ Err r)
  EventWhen said left (Err InFlight) = Fine said × left.in_flight
  EventWhen said left (Err NothingInFlight) = Fine said × left.nothing_in_flight
  EventWhen said left (Err Full) = Fine said × left.full
  EventWhen said left (Ok tt) = Fine said × left.taken

  -- An invocation: 4, then 6, then 0.
  abbrev pub InvokeLeft : Left
  InvokeLeft = record {
    in_flight = Busy M s t ≡ true;
    nothing_in_flight = ⊥;
    full = (Busy M s t ≡ false) × (capacity ≤ (M.history s).count);
    taken = (Busy M s t ≡ false) × ((M.history s).count < capacity);
  }

  abbrev pub InvokeWhen : Op → Result Unit Reason → Type 0
  InvokeWhen op r = EventWhen (op_said M s op) InvokeLeft r

  -- A return: 5, then 0.
  abbrev pub ReturnLeft : Left
  ReturnLeft = record {
    in_flight = ⊥;
    nothing_in_flight = Busy M s t ≡ false;
    full = ⊥;
    taken = Busy M s t ≡ true;
  }

  abbrev pub ReturnWhen : Ret → Result Unit Reason → Type 0
  ReturnWhen ret r = EventWhen (ret_said M s ret) ReturnLeft r

-- When a constructor is given each number: what the object says of being a start.
abbrev pub MadeWhen : Object → Result Unit Refusal → Type 0
MadeWhen start (Ok tt) = StartWhen start.kind (Ok tt)
MadeWhen start (Err r) = StartWhen start.kind (Err r)
