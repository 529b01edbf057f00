-- The operations of the rows that a tester reads as are those of its record, each with the notes at its place; in shape, all are of its object's
-- family.
use Rattle.std.specs.Prelude.{ℕ, zero, suc, ◌+◌, ◌<◌, ◌≡◌, refl, Bool, true, false, cond, List, [], ◌∷◌, length, get_or, eqb}
use Rattle.std.proofs.Common.{sym, ap, ◌∙◌, length-take, get_or-take, eqb-true, arith}
use Rattle.std.proofs.Math.Option.{some}
use Rattle.std.proofs.Math.ListN.{get_elem? as nth}
use Rattle.history.specs.Rows.{Entry, Is}
use Rattle.history.specs.Lists.{not_some, get_d_below}
use Rattle.values.specs.Sizes.{threads}
use Rattle.families.specs.Families.{families}
use Rattle.stepping.specs.declared.histories.Operation.{Operation}
use Rattle.stepping.specs.declared.histories.History.{History}
use Rattle.stepping.specs.Record.{blank_operation, held, operation_at}
use Rattle.stepping.specs.Shape.{InShape}
use Rattle.recording_meaning.specs.Reading.{entry_of, entries, of_thread, rows_of}
use Rattle.recording_meaning.specs.Rowing.{rows_many, row_is}
use Rattle.families.specs.Family.{op_family, family_of}
use Rattle.families.specs.Room.{own_op}
use Rattle.recording_meaning.specs.Models.{Model, tester_rows}
use Rattle.recording_meaning.specs.Parts.{of_parts}
use Rattle.recording_meaning.specs.ShapeExactly.{shape_exactly}
use Rattle.recording_meaning.specs.Lawful.{Lawful}

-- where an operation of a row stands in the record
record FromRecord (needs : ℕ → List ℕ) (i t : ℕ) (os : List Operation) (e : Entry families) : Type 0 where
  place : ℕ
  from_first : ℕ
  counted : place ≡ i + from_first
  held_there : from_first < length os
  noted : e.needs ≡ needs place
  operated : e.op ≡ (get_or os from_first blank_operation).op
  own : (get_or os from_first blank_operation).thread ≡ t

from_record : (needs : ℕ → List ℕ) (i t k : ℕ) (os : List Operation) (e : Entry families) → nth (of_thread t (entries needs i os)) k ≡ some e
    → FromRecord needs i t os e
from_record needs i t k [] e h = not_some h
from_record needs i t k (o ∷ os) e h = go (eqb o.thread t) refl k h (λ k. from_record needs (suc i) t k os e)
  where
    later : FromRecord needs (suc i) t os e → FromRecord needs i t (o ∷ os) e
    later w = record {
      place = w.place;
      from_first = suc w.from_first;
      counted = omega (arith, w.counted);
      held_there = omega (arith, w.held_there);
      noted = w.noted;
      operated = w.operated;
      own = w.own;
    }

    go : (b : Bool) → eqb o.thread t ≡ b → (k : ℕ)
        → nth (cond b (entry_of o (needs i) ∷ of_thread t (entries needs (suc i) os)) (of_thread t (entries needs (suc i) os))) k ≡ some e
        → ((k : ℕ) → nth (of_thread t (entries needs (suc i) os)) k ≡ some e → FromRecord needs (suc i) t os e) → FromRecord needs i t (o ∷ os) e
    go true z zero h f = record {
      place = i;
      from_first = 0;
      counted = omega arith;
      held_there = omega arith;
      noted = (let y : entry_of o (needs i) ≡ e = cc in ap (λ (x : Entry families). x.needs) (sym y));
      operated = (let y : entry_of o (needs i) ≡ e = cc in ap (λ (x : Entry families). x.op) (sym y));
      own = eqb-true o.thread t z;
    }
    go true z (suc k) h f = later (f k h)
    go false z k h f = later (f k h)

module _ (needs : ℕ → List ℕ) (h : History) where
  -- The k-th operation of thread t is one of the record's, of thread t, with the notes at its place.
  pub in_record : (t k : ℕ) (e : Entry families) → Is families (rows_of needs h) t k e
      → (i : ℕ) × (i < h.count) × ((operation_at h i).thread ≡ t) × (e.needs ≡ needs i) × (e.op ≡ (operation_at h i).op)
  in_record t k e is =
      let low : t < threads = omega (arith, get_d_below (rows_of needs h) t k e is, rows_many needs h) in
      let w : FromRecord needs 0 t (held h) e
      = from_record needs 0 t k (held h) e (ap (λ (r : List (Entry families)). nth r k) (sym (row_is needs h t low)) ∙ is) in
      let l : w.from_first < h.count = omega (arith, w.held_there, length-take h.count h.ops) in
      let z : w.place ≡ w.from_first = omega (arith, w.counted) in (
        w.from_first,
        l,
        ap (λ (o : Operation). o.thread) (sym (get_or-take h.count h.ops w.from_first blank_operation l)) ∙ w.own,
        w.noted ∙ ap needs z,
        w.operated ∙ ap (λ (o : Operation). o.op) (get_or-take h.count h.ops w.from_first blank_operation l),
      )

-- One family: the operations are the object's own.
pub rows_own : (M : Model) → Lawful M → (s : M.Tester) → M.Lengths s → M.shaped s ≡ true
    → (t k : ℕ) (e : Entry families) → Is families (tester_rows M s) t k e → op_family e.op ≡ family_of (M.history s).start.kind
rows_own M L s z e t k x is =
    let w = in_record (M.needs s) (M.history s) t k x is in
    let shape : InShape (M.history s) = (shape_exactly (M.history s) (L.sized s z)).1 (of_parts (M.history s) (L.shape_in s z e).0) in
    ap op_family w.4 ∙ (own_op (M.history s).start.kind (operation_at (M.history s) w.0).op).0 (shape.own_op w.0 w.1)
