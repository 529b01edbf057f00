-- A history in shape reads as rows in shape, which hold as many operations as it counts.
use Prim.Native.Nat.{ℕ, suc, ◌+◌, ◌<◌}
use Rattle.std.specs.Prelude.{◌≡◌, Bool, length, get_or, eqb, ltb, Option, Some, None}
use Rattle.std.proofs.Math.Path.{refl, ap}
use Rattle.std.proofs.Common.{sym, ◌∙◌, subst, eqb-true, ltb-true, ltb-false}
use Rattle.std.proofs.Math.Bool.{true, false, cond}
use mathlib.Core.List.{List, [], ◌∷◌}
use Rattle.std.proofs.Math.ListN.{length-take, get_or-eq_default}
use native.Mathlib.Omega.{arith}
use Rattle.history.specs.Lists.{not_both}
use Rattle.history.specs.Rows.{row, Shaped, AllShaped, empty, in_flight, completed_first, operations}
use Rattle.history.specs.Recorder.{completed as completed_of}
use Rattle.values.specs.Value.{pick}
use Rattle.values.specs.Sizes.{threads}
use Rattle.families.specs.Families.{families}
use Rattle.families.specs.declared.Kind.{Kind}
use Rattle.stepping.specs.declared.histories.Operation.{Operation}
use Rattle.stepping.specs.declared.histories.History.{History}
use Rattle.stepping.specs.Record.{held, is_pending}
use Rattle.stepping.specs.Shape.{kind_of, done_by, count_done, operation_fits, operations_fit, none_of, flying_last}
use Rattle.recording_meaning.specs.Reading.{Sized, entry_of, return_in, entries, of_thread, by_thread, rows_of}
use Rattle.recording_meaning.specs.Threads.{held_none, held_in}
use Rattle.recording_meaning.specs.Parts.{pick_left, pick_right, operation_parts, Parts}
use Rattle.recording_meaning.specs.Exchanges.{last_first, last_rest}
use Rattle.recording_meaning.specs.Rowing.{rows_many, row_is}
use Rattle.families.specs.declared.Ret.{Ret}

module _ (needs : ℕ → List ℕ) where
  -- a row in shape

  none_row : (i t : ℕ) (os : List Operation) → none_of t os ≡ true → of_thread t (entries needs i os) ≡ []
  unfolding none_of
  none_row i t [] e = refl
  none_row i t (o ∷ os) e = go (eqb o.thread t) e (none_row (suc i) t os)
    where
      go : (b : Bool) → pick b false (none_of t os) ≡ true → (none_of t os ≡ true → of_thread t (entries needs (suc i) os) ≡ [])
          → cond b (entry_of o (needs i) ∷ of_thread t (entries needs (suc i) os)) (of_thread t (entries needs (suc i) os)) ≡ []
      go true e f = not_both e refl
      go false e f = f e

  shaped_row : (i t : ℕ) (os : List Operation) → flying_last os ≡ true → Shaped families (of_thread t (entries needs i os))
  unfolding is_pending
  shaped_row i t [] e = empty
  shaped_row i t (o ∷ os) e = go (eqb o.thread t) refl (shaped_row (suc i) t os (last_rest o os e))
    where
      first : (c : Option Ret) → pick (is_pending c) (none_of o.thread os) true ≡ true → o.thread ≡ t → Shaped families (of_thread t (entries needs (suc i) os))
          → Shaped families (record { op = o.op; ret = return_in c; needs = needs i } ∷ of_thread t (entries needs (suc i) os))
      first None g z s = rw (none_row (suc i) t os (subst (λ (u : ℕ). none_of u os ≡ true) z g)) (in_flight refl)
      first (Some r) g z s = completed_first refl s

      go : (b : Bool) → eqb o.thread t ≡ b → Shaped families (of_thread t (entries needs (suc i) os))
          → Shaped families (cond b (entry_of o (needs i) ∷ of_thread t (entries needs (suc i) os)) (of_thread t (entries needs (suc i) os)))
      go true z s = first o.outcome (last_first o os e) (eqb-true o.thread t z) s
      go false z s = s

  -- its completed operations are those counted

  completed_row : (i t : ℕ) (os : List Operation) → completed_of families (of_thread t (entries needs i os)) ≡ count_done t os
  unfolding count_done done_by is_pending
  completed_row i t [] = refl
  completed_row i t (o ∷ os) = go (eqb o.thread t) o.outcome (completed_row (suc i) t os)
    where
      go : (b : Bool) (c : Option Ret) → completed_of families (of_thread t (entries needs (suc i) os)) ≡ count_done t os
          → completed_of families (cond b (record { op = o.op; ret = return_in c; needs = needs i } ∷ of_thread t (entries needs (suc i) os))
          (of_thread t (entries needs (suc i) os))) ≡ pick (pick b (pick (is_pending c) false true) false) 1 0 + count_done t os
      go true None e = omega arith
      go true (Some r) e = omega arith
      go false c e = omega arith

  -- how many there are

  all_held : (i : ℕ) (k : Kind) (os : List Operation) → operations_fit k os ≡ true → operations families (by_thread 0 threads (entries needs i os)) ≡ length os
  unfolding operations_fit
  all_held i k [] e = held_none families 0 threads
  all_held i k (o ∷ os) e =
      let known = (operation_parts k o (pick_left (operation_fits k o) (operations_fit k os) e)).known in
      held_in families 0 threads o.thread (entry_of o (needs i)) (entries needs (suc i) os) (omega arith) (omega arith)
      ∙ ap suc (all_held (suc i) k os (pick_right (operation_fits k o) (operations_fit k os) e))

  module _ (h : History) (w : Parts h) where
    -- The rows are in shape.
    pub rows_shaped : AllShaped families (rows_of needs h)
    rows_shaped t = go (ltb t threads) refl
      where
        go : (b : Bool) → ltb t threads ≡ b → Shaped families (row families (rows_of needs h) t)
        go true z = subst (Shaped families) (sym (row_is needs h t (ltb-true t threads z))) (shaped_row 0 t (held h) w.last)
        go false z =
            subst (Shaped families) (sym (get_or-eq_default (rows_of needs h) [] (omega (arith, ltb-false t threads z, rows_many needs h)))) empty

    -- Each thread's completed operations are as many as its counter says.
    pub rows_done : (t : ℕ) → t < threads → completed_of families (row families (rows_of needs h) t) ≡ get_or h.done t 0
    rows_done t l = ap (completed_of families) (row_is needs h t l) ∙ completed_row 0 t (held h) ∙ sym (w.counted t l)

    -- The rows hold as many operations as are counted.
    pub rows_count : Sized h → operations families (rows_of needs h) ≡ h.count
    unfolding rows_of
    rows_count z = all_held 0 (kind_of h) (held h) w.fit ∙ omega (arith, length-take h.count h.ops, w.few)
