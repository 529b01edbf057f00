-- When a record is in shape; out of shape is number 9 of document 01.
use Rattle.std.specs.Prelude.{ℕ, zero, suc, ◌+◌, ◌*◌, ◌<◌, ◌≤◌, ◌≡◌, Bool, true, false, List, [], ◌∷◌, get_or, ltb, leb, eqb, Option, Some, None, Ok, is_ok}
use Rattle.values.specs.Value.{pick}
use Rattle.values.specs.Sizes.{threads, capacity}
use Rattle.families.specs.Refusals.{op_belongs, ret_belongs, start_check}
use Rattle.families.specs.declared.Kind.{Kind}
use Rattle.families.specs.declared.Ret.{Ret}
use Rattle.stepping.specs.declared.histories.Operation.{Operation}
use Rattle.stepping.specs.declared.histories.History.{History}
use Rattle.stepping.specs.Record.{held, operation_at, is_pending}

-- the object that a history starts with, but for its items
abbrev pub kind_of : History → Kind
kind_of h = h.start.kind

-- an operation of thread t that has returned
unfoldable pub done_by : ℕ → Operation → Bool
done_by t o = pick (eqb o.thread t) (pick (is_pending o.outcome) false true) false

-- how many operations of thread t have returned
unfoldable pub count_done : ℕ → List Operation → ℕ
count_done t [] = 0
count_done t (o ∷ os) = pick (done_by t o) 1 0 + count_done t os

-- what operation i notes of thread u
abbrev pub note_at : List ℕ → ℕ → ℕ → ℕ
note_at notes i u = get_or notes (i * threads + u) 0

-- what a thread can note of thread u, of whose operations `done` have completed: of itself nothing
unfoldable pub notable : ℕ → ℕ → ℕ → ℕ
notable done own u = pick (eqb u own) 0 done

-- The shape of a history, a field for each reason.
pub record InShape (h : History) : Type 0 where
  -- at most 64 operations
  pub few : h.count ≤ capacity
  -- an initial object that a tester can start with: a stack of at most 32
  pub startable : start_check (kind_of h) ≡ Ok tt
  -- threads 0 to 7
  pub known : (i : ℕ) → i < h.count → (operation_at h i).thread < threads
  -- one family: the object's own operations
  pub own_op : (i : ℕ) → i < h.count → op_belongs (kind_of h) (operation_at h i).op ≡ Ok tt
  -- one family: its own returns
  pub own_ret : (i : ℕ) → i < h.count → (r : Ret) → (operation_at h i).outcome ≡ Some r → ret_belongs (kind_of h) r ≡ Ok tt
  -- an operation in flight is its thread's last, so that no thread has two
  pub last : (i j : ℕ) → i < j → j < h.count → (operation_at h i).thread ≡ (operation_at h j).thread → is_pending (operation_at h i).outcome ≡ false
  -- each stored count is what is held
  pub counted : (t : ℕ) → t < threads → get_or h.done t 0 ≡ count_done t (held h)

-- The shape of notes beside a history.
pub record NotesInShape (h : History) (notes : List ℕ) : Type 0 where
  -- none on the own thread
  pub not_own : (i : ℕ) → i < h.count → note_at notes i (operation_at h i).thread ≡ 0
  -- none on an operation that has not completed
  pub completed : (i : ℕ) → i < h.count → (u : ℕ) → u < threads → note_at notes i u ≤ get_or h.done u 0

-- The same as a test.

-- the first n numbers all pass
unfoldable pub all_below : (ℕ → Bool) → ℕ → Bool
all_below p zero = true
all_below p (suc n) = pick (all_below p n) (p n) false

unfoldable pub outcome_fits : Kind → Option Ret → Bool
outcome_fits k None = true
outcome_fits k (Some r) = is_ok (ret_belongs k r)

-- one of the threads, and the object's own
unfoldable pub operation_fits : Kind → Operation → Bool
operation_fits k o = pick (ltb o.thread threads) (pick (is_ok (op_belongs k o.op)) (outcome_fits k o.outcome) false) false

unfoldable pub operations_fit : Kind → List Operation → Bool
operations_fit k [] = true
operations_fit k (o ∷ os) = pick (operation_fits k o) (operations_fit k os) false

-- no operation of thread t
unfoldable pub none_of : ℕ → List Operation → Bool
none_of t [] = true
none_of t (o ∷ os) = pick (eqb o.thread t) false (none_of t os)

-- each operation in flight is its thread's last
unfoldable pub flying_last : List Operation → Bool
flying_last [] = true
flying_last (o ∷ os) = pick (pick (is_pending o.outcome) (none_of o.thread os) true) (flying_last os) false

-- the stored counts are what is held
unfoldable pub counts_right : List ℕ → List Operation → Bool
counts_right done os = all_below (λ t. eqb (get_or done t 0) (count_done t os)) threads

unfoldable pub shape_of : History → Bool
shape_of h =
    pick (leb h.count capacity)
    (pick (is_ok (start_check (kind_of h)))
    (pick (operations_fit (kind_of h) (held h))
    (pick (flying_last (held h)) (counts_right h.done (held h)) false)
    false)
    false)
    false

-- with what stands beside the history
abbrev pub shaped_with : Bool → History → Bool
shaped_with noted h = pick noted (shape_of h) false

-- the eight notes of operation i, of thread `own`
unfoldable pub notes_fit : List ℕ → List ℕ → ℕ → ℕ → Bool
notes_fit done notes i own = all_below (λ u. leb (note_at notes i u) (notable (get_or done u 0) own u)) threads

-- the notes of the operations from i on
unfoldable pub notes_fit_from : List ℕ → List ℕ → ℕ → List Operation → Bool
notes_fit_from done notes i [] = true
notes_fit_from done notes i (o ∷ os) = pick (notes_fit done notes i o.thread) (notes_fit_from done notes (i + 1) os) false
