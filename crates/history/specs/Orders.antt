-- Legal orders and the first order, as document 01 says them: in terms of the places of an order, with no word of a search.
use Rattle.std.specs.Prelude.{ℕ, zero, suc, ◌+◌, ◌≤◌, ◌<◌, ◌≡◌, true, cond, List, [], ◌∷◌, length, get_or, take, eqb}
use Rattle.std.proofs.Math.Option.{Option, none, some}
use Rattle.std.proofs.Math.ListN.{get_elem? as nth}
use Rattle.theory.specs.Least.{Lex}
use Rattle.history.specs.Object.{Object}
use Rattle.history.specs.Rows.{Entry, Rows, row, Is}

module _ (O : Object) where
  -- A place of an order: a thread, and the return that its operation has there.
  pub record Item : Type 0 where
    pub thread : ℕ
    pub ret : O.Ret

  -- An order, first place first.
  abbrev pub Order : Type 0
  Order = List Item

  -- How often a thread stands in an order.
  abbrev pub occurs : ℕ → Order → ℕ
  occurs t [] = 0
  occurs t (x ∷ p) = cond (eqb x.thread t) 1 0 + occurs t p

  -- At place i of the order p stands the k-th operation of thread t, with the return r: t stands there, and stood k times before. (All are
  -- counted from 0.)
  pub record Stands (p : Order) (i t k : ℕ) (r : O.Ret) : Type 0 where
    pub here : nth p i ≡ some (record { thread = t; ret = r })
    pub number : occurs t (take i p) ≡ k

  -- p is at most q, comparing thread numbers place by place.
  abbrev pub Before : Order → Order → Type 0
  Before = Lex (λ (x : Item). x.thread)

module _ (O : Object) (rows : Rows O) where
  -- The operation at a place of an order.
  abbrev pub found : Order O → ℕ → Option (Item O) → Option (Entry O)
  found p i none = none
  found p i (some x) = nth (row O rows x.thread) (occurs O x.thread (take i p))

  -- The object after one operation more.
  abbrev pub applied : O.State → Option (Entry O) → O.State
  applied s none = s
  applied s (some e) = O.after s e.op

  -- The object after the first i operations of the order.
  abbrev pub state : O.State → Order O → ℕ → O.State
  state s p zero = s
  state s p (suc i) = applied (state s p i) (found p i (nth p i))

  -- Real time, as the notes say it: before an operation stand, of each thread, as many operations as it notes.
  abbrev pub InTime : Order O → Type 0
  InTime p = (i t k : ℕ) (r : O.Ret) (e : Entry O) → Stands O p i t k r → Is O rows t k e
      → (u : ℕ) → u < length rows → get_or e.needs u 0 ≤ occurs O u (take i p)

  -- The order is empty or ends with a completed operation.
  abbrev pub EndsCompleted : Order O → Type 0
  EndsCompleted p = (i t k : ℕ) (r : O.Ret) (e : Entry O) → suc i ≡ length p → Stands O p i t k r → Is O rows t k e
      → (q : O.Ret) × (e.ret ≡ some q)

  -- A legal order of the rows from the object s on. That an operation stands at most once, that a thread's operations stand in its own order and
  -- that the one in flight stands last is in the numbering: `once`, `own_order` and `in_flight_last` of Numbering.
  pub record LegalOrder (s : O.State) (p : Order O) : Type 0 where
    -- every place holds an operation of the record, completed or in flight
    pub known : (i t k : ℕ) (r : O.Ret) → Stands O p i t k r → (e : Entry O) × Is O rows t k e
    -- every completed operation stands in it
    pub complete : (t k : ℕ) (e : Entry O) (q : O.Ret) → Is O rows t k e → e.ret ≡ some q → (i : ℕ) × (r : O.Ret) × Stands O p i t k r
    -- with its recorded return
    pub recorded : (i t k : ℕ) (r q : O.Ret) (e : Entry O) → Stands O p i t k r → Is O rows t k e → e.ret ≡ some q → r ≡ q
    -- and one in flight with the return that the object gives there
    pub answered : (i t k : ℕ) (r : O.Ret) (e : Entry O) → Stands O p i t k r → Is O rows t k e → e.ret ≡ none
        → r ≡ O.answers (state s p i) e.op
    -- from the initial object every step is right
    pub right : (i t k : ℕ) (r : O.Ret) (e : Entry O) → Stands O p i t k r → Is O rows t k e → O.ok (state s p i) e.op r ≡ true
    -- an operation that returned before another was invoked stands before it
    pub in_time : InTime p
    -- it is empty or ends with a completed operation
    pub ends_completed : EndsCompleted p

  -- The first order: legal, and the least of the legal ones.
  pub record First (s : O.State) (p : Order O) : Type 0 where
    pub legal : LegalOrder s p
    pub least : (q : Order O) → LegalOrder s q → Before O p q
