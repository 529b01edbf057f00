-- A recorded history: a row of operations for each thread, in the thread's own order.
use Rattle.std.specs.Prelude.{ℕ, ◌+◌, ◌≡◌, List, [], ◌∷◌, map, length, get_or}
use Rattle.std.proofs.Math.Option.{Option, none, some}
use Rattle.std.proofs.Math.ListN.{get_elem? as nth}
use Rattle.history.specs.Object.{Object}

module _ (O : Object) where
  -- An operation; its return, or none while it is in flight; and its notes: of each other thread, how many of its operations had completed when
  -- this one was invoked. A note of 0, like a note that is missing, says none.
  pub record Entry : Type 0 where
    pub op : O.Op
    pub ret : Option O.Ret
    pub needs : List ℕ

  -- A row for each thread, thread 0 first.
  abbrev pub Rows : Type 0
  Rows = List (List Entry)

  -- The operations of thread t.
  abbrev pub row : Rows → ℕ → List Entry
  row rows t = get_or rows t []

  -- Thread t's k-th operation, counted from 0, is e.
  abbrev pub Is : Rows → ℕ → ℕ → Entry → Type 0
  Is rows t k e = nth (row rows t) k ≡ some e

  -- In shape: completed operations, then at most one in flight.
  pub data Shaped : List Entry → Type 0 where
    empty : Shaped []
    in_flight : {e : Entry} → e.ret ≡ none → Shaped (e ∷ [])
    completed_first : {e : Entry} {q : O.Ret} {r : List Entry} → e.ret ≡ some q → Shaped r → Shaped (e ∷ r)

  -- Every row is in shape.
  abbrev pub AllShaped : Rows → Type 0
  AllShaped rows = (t : ℕ) → Shaped (row rows t)

  -- How many operations are held, completed and in flight together.
  abbrev pub operations : Rows → ℕ
  operations [] = 0
  operations (r ∷ rows) = length r + operations rows

  -- 1 for a row that holds an operation, and 0 for an empty one.
  abbrev pub has_one : List Entry → ℕ
  has_one [] = 0
  has_one (e ∷ r) = 1

  -- How many threads have an operation.
  abbrev pub threads_used : Rows → ℕ
  threads_used [] = 0
  threads_used (r ∷ rows) = has_one r + threads_used rows

  -- The operation without its notes.
  abbrev pub noteless : Entry → Entry
  noteless e = record { op = e.op; ret = e.ret; needs = [] }

  -- The sequential model keeps no notes: the rows without them.
  abbrev pub forget : Rows → Rows
  forget rows = map (map noteless) rows
