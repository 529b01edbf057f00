-- A history's rows: what they hold, and what an event makes of them, whatever notes stand beside.
use Rattle.std.specs.Prelude.{ℕ, suc, ◌+◌, ◌<◌, ◌≡◌, refl, Bool, true, false, cond, ◌||◌, eqb, Option, Some, None}
use Rattle.std.proofs.Common.{sym, ◌∙◌, arith}
use Rattle.std.proofs.Math.Path.{ap}
use Rattle.std.proofs.Math.Option.{none, some}
use mathlib.Core.List.{List, [], ◌∷◌, ◌++◌}
use Rattle.std.proofs.Math.ListN.{length, length-take}
use Rattle.history.specs.Rows.{Entry, row}
use Rattle.history.specs.Recorder.{pending, flying, close, extend}
use Rattle.values.specs.Value.{pick}
use Rattle.values.specs.Sizes.{threads, capacity}
use Rattle.families.specs.Families.{families}
use Rattle.families.specs.declared.Op.{Op}
use Rattle.families.specs.declared.Ret.{Ret}
use Rattle.stepping.specs.declared.histories.Operation.{Operation}
use Rattle.stepping.specs.declared.histories.History.{History}
use Rattle.stepping.specs.Record.{operation, held, is_pending, flying_by, invalidated, extended, completed}
use Rattle.recording_meaning.specs.Reading.{Sized, entry_of, return_in, entries, of_thread, by_thread, rows_of}
use Rattle.recording_meaning.specs.Threads.{rows_length, rows_at, rows_add, rows_close}
use Rattle.recording_meaning.specs.Held.{held_extended, flies, Found, held_completed}

-- the rows, one by one

module _ (needs : ℕ → List ℕ) (h : History) where
  pub rows_many : length (rows_of needs h) ≡ threads
  unfolding rows_of
  rows_many = rows_length 0 threads (entries needs 0 (held h))

  pub row_is : (t : ℕ) → t < threads → row families (rows_of needs h) t ≡ of_thread t (entries needs 0 (held h))
  unfolding rows_of
  row_is t l = rows_at 0 threads t t (entries needs 0 (held h)) (omega arith) l

-- entries of lists joined, and of notes that agree

entries_append : (needs : ℕ → List ℕ) (i j : ℕ) (os ps : List Operation) → j ≡ i + length os
    → entries needs i (os ++ ps) ≡ entries needs i os ++ entries needs j ps
entries_append needs i j [] ps e = let z : j ≡ i = omega arith in rw z
entries_append needs i j (o ∷ os) ps e =
    ap (λ (l : List (ℕ × Entry families)). (o.thread, entry_of o (needs i)) ∷ l) (entries_append needs (suc i) j os ps (omega arith))

entries_same : (needs other : ℕ → List ℕ) (i n : ℕ) (os : List Operation) → n ≡ i + length os → ((k : ℕ) → k < n → other k ≡ needs k)
    → entries other i os ≡ entries needs i os
entries_same needs other i n [] e f = refl
entries_same needs other i n (o ∷ os) e f = rw (f i (omega arith), entries_same needs other (suc i) n os (omega arith) f)

-- a row has an operation in flight exactly if its thread has one

pending_return : (o : Option Ret) → pending families (return_in o) ≡ is_pending o
unfolding is_pending
pending_return None = refl
pending_return (Some r) = refl

flying_flies : (needs : ℕ → List ℕ) (i t : ℕ) (os : List Operation) → flying families (of_thread t (entries needs i os)) ≡ flies t os
unfolding flies flying_by
flying_flies needs i t [] = refl
flying_flies needs i t (o ∷ os) = go (eqb o.thread t) (flying_flies needs (suc i) t os)
  where
    go : (b : Bool) → flying families (of_thread t (entries needs (suc i) os)) ≡ flies t os
        → flying families (cond b (entry_of o (needs i) ∷ of_thread t (entries needs (suc i) os)) (of_thread t (entries needs (suc i) os)))
        ≡ pick b (is_pending o.outcome) false || flies t os
    go true e = rw (pending_return o.outcome, e)
    go false e = e

pub flying_row : (needs : ℕ → List ℕ) (h : History) (t : ℕ) → t < threads → flying families (row families (rows_of needs h) t) ≡ flies t (held h)
flying_row needs h t l = ap (flying families) (row_is needs h t l) ∙ flying_flies needs 0 t (held h)

-- an event that turns validity off

pub rows_invalidated : (needs : ℕ → List ℕ) (h : History) → rows_of needs (invalidated h) ≡ rows_of needs h
unfolding rows_of
rows_invalidated needs h = refl

-- an event taken

module _ (h : History) (t : ℕ) (low : t < threads) where
  -- One more operation in flight: history's extend. The notes of those before stay.
  pub rows_extended : (needs other : ℕ → List ℕ) (op : Op) → Sized h → h.count < capacity → ((k : ℕ) → k < h.count → other k ≡ needs k)
      → rows_of other (extended h t op) ≡ extend families (rows_of needs h) t (record { op = op; ret = none; needs = other h.count })
  unfolding rows_of
  rows_extended needs other op z l f =
      let n : h.count ≡ 0 + length (held h) = omega (arith, length-take h.count h.ops) in
      let e : entries other 0 (held (extended h t op))
      ≡ entries needs 0 (held h) ++ ((t, record { op = op; ret = none; needs = other h.count }) ∷ [])
      = ap (entries other 0) (held_extended h t op z l)
      ∙ entries_append other 0 h.count (held h) (operation t op None ∷ []) n
      ∙ rw (entries_same needs other 0 h.count (held h) n f) in
      ap (by_thread 0 threads) e ∙ rows_add threads t _ (entries needs 0 (held h)) low

  -- The operation in flight has returned: history's close.
  pub rows_completed : (needs : ℕ → List ℕ) (ret : Ret) {i : ℕ} → Found t (held h) i
      → rows_of needs (completed h i t ret) ≡ close families (rows_of needs h) t ret
  unfolding rows_of
  rows_completed needs ret {i} w =
      let a : List (ℕ × Entry families) = entries needs 0 w.before in
      let b : List (ℕ × Entry families) = entries needs (suc i) w.after in
      let e : Entry families = entry_of w.one (needs i) in
      let x : entries needs 0 (held (completed h i t ret)) ≡ a ++ ((t, record { op = w.one.op; ret = some ret; needs = needs i }) ∷ b)
      = ap (entries needs 0) (held_completed h ret w) ∙ entries_append needs 0 i w.before _ (omega (arith, w.place)) in
      let y : entries needs 0 (held h) ≡ a ++ ((t, e) ∷ b)
      = ap (entries needs 0) w.split
      ∙ entries_append needs 0 i w.before _ (omega (arith, w.place))
      ∙ ap (λ (u : ℕ). a ++ ((u, e) ∷ b)) w.own in
      ap (by_thread 0 threads) x
      ∙ rows_close families threads t e ret a b low (flying_flies needs 0 t w.before ∙ w.first) (ap return_in w.in_flight)
      ∙ ap (λ (l : List (ℕ × Entry families)). close families (by_thread 0 threads l) t ret) (sym y)
