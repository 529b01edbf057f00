-- What a tester is in the Rust's maps, and when the two are compared: where the Rust knows the answer, numbers 0, 1, 4 and 5. It has no sizes and
-- its types let in an object's own events only, so that 2, 3, 6 and 9 have no counterpart there.
use Rattle.std.specs.Prelude.{ℕ, ◌<◌, ◌≡◌, Bool, true, false, ◌&&◌, List, [], ◌∷◌, map, Result, Ok, Err}
use Rattle.values.specs.Sizes.{threads}
use Rattle.families.specs.Families.{families}
use Rattle.families.specs.declared.Object.{Object}
use Rattle.families.specs.declared.Op.{Op}
use Rattle.families.specs.declared.Ret.{Ret}
use Rattle.stepping.specs.declared.recorded.Reason.TheVariants.{AlreadyInvalid, NoSuchThread, NotOwn, InFlight, NothingInFlight, Full, OutOfShape}
use Rattle.recording_meaning.specs.Rust.{Keeps, Tester, Answered, Result as RustResult, Ok as RustOk, Err as RustErr, new, with_entry, on_invoke, on_return, on_invret, len, linearizable, sequential}
use Rattle.recording_meaning.specs.RustMaps.{with_notes, without_notes, in_maps}
use Rattle.recording_meaning.specs.Models.{Model, tester_rows, sequential_model, linearizability_model}
use Rattle.recording_meaning.specs.Inputs.{Input, invoke, return, invret, Inputs, events_in, InSizes, feed, drawn}
use Rattle.stepping.specs.declared.recorded.Reason.{Reason}

-- What the Rust's tester of a model keeps of an operation with its notes.
pub record InRust (M : Model) : Type 1 where
  pub keeps : Keeps Op Ret
  pub flight : Op → List ℕ → keeps.InFlight

abbrev pub sequential_in_rust : InRust sequential_model
sequential_in_rust = record { keeps = sequential Op Ret; flight = without_notes families }

abbrev pub linearizability_in_rust : InRust linearizability_model
linearizability_in_rust = record { keeps = linearizable Op Ret; flight = with_notes families }

-- Ok for 0, and Err for what the Rust refuses.
abbrev pub result_of : Result Unit Reason → RustResult
result_of (Ok tt) = RustOk
result_of (Err r) = RustErr

-- 0, 1, 4 and 5
abbrev pub comparable : Result Unit Reason → Bool
comparable (Ok tt) = true
comparable (Err AlreadyInvalid) = true
comparable (Err NoSuchThread) = false
comparable (Err (NotOwn r)) = false
comparable (Err InFlight) = true
comparable (Err NothingInFlight) = true
comparable (Err Full) = false
comparable (Err OutOfShape) = false

abbrev pub all_comparable : List (Result Unit Reason) → Bool
all_comparable [] = true
all_comparable (r ∷ l) = comparable r && all_comparable l

module _ (M : Model) (R : InRust M) where
  -- The Rust's testers.
  abbrev pub RustTester : Type 0
  RustTester = Tester Op Ret Object R.keeps

  -- What a call there answers and leaves.
  abbrev pub answered : RustResult → RustTester → Answered Op Ret Object R.keeps
  answered r s = record { result = r; tester = s }

  -- What a tester is there.
  abbrev pub in_rust : M.Tester → RustTester
  in_rust s = in_maps families R.keeps R.flight (M.history s).start (tester_rows M s) (M.history s).valid

  -- What the Rust's on_return leaves: after 5 there is one thing more, an entry of the thread in history_by_thread, empty if there was none.
  abbrev pub left_by : Result Unit Reason → RustTester → ℕ → RustTester
  left_by (Ok tt) s t = s
  left_by (Err AlreadyInvalid) s t = s
  left_by (Err NoSuchThread) s t = s
  left_by (Err (NotOwn r)) s t = s
  left_by (Err InFlight) s t = s
  left_by (Err NothingInFlight) s t = with_entry Op Ret Object R.keeps s t
  left_by (Err Full) s t = s
  left_by (Err OutOfShape) s t = s

  -- A Rust tester stands for a tester: it is what the tester reads as or, once validity is off by a return to thread t, that with the stray entry.
  pub data StandsFor (s : M.Tester) : RustTester → Type 0 where
    exactly : StandsFor s (in_rust s)
    strayed : (t : ℕ) → t < threads → (M.history s).valid ≡ false → StandsFor s (with_entry Op Ret Object R.keeps (in_rust s) t)

  -- The Rust's new tester, of the start that was given.
  abbrev pub rust_new : Object → RustTester
  rust_new start = new Op Ret Object R.keeps start

  -- Feeding the Rust.

  abbrev pub rust_give : RustTester → Input → Answered Op Ret Object R.keeps
  rust_give s (invoke t op) = on_invoke Op Ret Object R.keeps s t op
  rust_give s (return t ret) = on_return Op Ret Object R.keeps s t ret
  rust_give s (invret t op ret) = on_invret Op Ret Object R.keeps s t op ret

  abbrev pub rust_feed : RustTester → Inputs → RustTester
  rust_feed s [] = s
  rust_feed s (v ∷ l) = rust_feed (rust_give s v).tester l

  abbrev pub rust_drawn : RustTester → Inputs → List RustResult
  rust_drawn s [] = []
  rust_drawn s (v ∷ l) = (rust_give s v).result ∷ rust_drawn (rust_give s v).tester l

  -- The Rust's new tester, fed the same inputs, answers the same, stands for the tester in the end, and has the same len.
  pub record SameAsRust (start : Object) (l : Inputs) : Type 0 where
    pub results : rust_drawn (rust_new start) l ≡ map result_of (drawn M (M.new start) l)
    pub stands : StandsFor (feed M (M.new start) l) (rust_feed (rust_new start) l)
    pub lens : len Op Ret Object R.keeps (rust_feed (rust_new start) l) ≡ M.len (feed M (M.new start) l)

  -- Recording is the Rust's.
  pub record AsRust : Type 0 where
    -- a tester in shape, a call that draws 0, 1, 4 or 5: Ok for 0 and Err else, and the tester after it reads as the Rust's after it
    pub invoke_as : (s : M.Tester) → M.Lengths s → M.shaped s ≡ true → (t : ℕ) (op : Op) → comparable (M.on_invoke s t op).0 ≡ true
        → on_invoke Op Ret Object R.keeps (in_rust s) t op ≡ answered (result_of (M.on_invoke s t op).0) (in_rust (M.on_invoke s t op).1)
    -- after 5, with the stray entry
    pub return_as : (s : M.Tester) → M.Lengths s → M.shaped s ≡ true → (t : ℕ) (ret : Ret) → comparable (M.on_return s t ret).0 ≡ true
        → on_return Op Ret Object R.keeps (in_rust s) t ret
        ≡ answered (result_of (M.on_return s t ret).0) (left_by (M.on_return s t ret).0 (in_rust (M.on_return s t ret).1) t)
    -- on_invret, without one: after its invocation is taken, its return never draws 5
    pub invret_as : (s : M.Tester) → M.Lengths s → M.shaped s ≡ true → (t : ℕ) (op : Op) (ret : Ret) → comparable (M.on_invret s t op ret).0 ≡ true
        → on_invret Op Ret Object R.keeps (in_rust s) t op ret
        ≡ answered (result_of (M.on_invret s t op ret).0) (in_rust (M.on_invret s t op ret).1)
    -- from fresh, where the start draws 0, along inputs that draw nothing else
    pub run_as : (start : Object) → M.made start ≡ Ok tt → (l : Inputs) → all_comparable (drawn M (M.new start) l) ≡ true → SameAsRust start l
    -- within document 01's sizes no input draws anything else
    pub in_sizes : (start : Object) → M.made start ≡ Ok tt → (l : Inputs) → InSizes start.kind (events_in l) → SameAsRust start l
    -- while the history is valid, there is no stray entry
    pub while_valid : (s : M.Tester) {T : RustTester} → (M.history s).valid ≡ true → StandsFor s T → T ≡ in_rust s
