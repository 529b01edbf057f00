-- The notes beside a history: what an invoke writes, place by place, and how they read as history's notes.
use Prim.Native.Nat.{ℕ, zero, suc, ◌+◌, ◌*◌, ◌<◌, ◌≤◌}
use Rattle.std.specs.Prelude.{◌≡◌, ◌≢◌, Bool, List, [], map, length, set, drop}
use Rattle.std.proofs.Math.Path.{refl}
use Rattle.std.proofs.Common.{sym, ◌∙◌, length-take, length-drop, get_or-set_same, get_or-take, get_or-drop, ext_get_or, arith}
use Rattle.std.proofs.Math.Bool.{true, false}
use Rattle.std.proofs.Math.ListN.{get_or, length-set, get_or-map}
use Rattle.std.proofs.lemmas.List.{length-map}
use Rattle.std.proofs.Math.Seq.{get_or-set_other}
use Rattle.std.proofs.Math.Dec.{ltb}
use borrow.Author.Tests.{ltb-true, ltb-false, eq-eqb, ne_eqb}
use Rattle.history.specs.Lists.{own_or_other}
use Rattle.history.specs.Recorder.{completed as completed_of, notes as history_notes}
use Rattle.values.specs.Sizes.{threads, capacity}
use Rattle.families.specs.Families.{families}
use Rattle.stepping.specs.declared.histories.History.{History}
use Rattle.stepping.specs.Shape.{note_at, notable}
use Rattle.shape.specs.Notes.{notes_with}
use Rattle.recording_meaning.specs.Reading.{notes_of, rows_of}
use Rattle.recording_meaning.specs.Parts.{Parts}
use Rattle.recording_meaning.specs.Rowing.{rows_many}
use Rattle.recording_meaning.specs.Shaping.{rows_done}

-- the notes of one operation

notes_length : (notes : List ℕ) (i : ℕ) → length notes ≡ capacity * threads → i < capacity → length (notes_of notes i) ≡ threads
unfolding notes_of
notes_length notes i e l = length-take threads (drop (i * threads) notes) ∙ rw (length-drop (i * threads) notes) (omega arith)

pub note_in : (notes : List ℕ) (i u : ℕ) → u < threads → get_or (notes_of notes i) u 0 ≡ note_at notes i u
unfolding notes_of
note_in notes i u l = get_or-take threads (drop (i * threads) notes) u 0 l ∙ get_or-drop (i * threads) notes u 0

-- notes that agree place by place
pub notes_agree : (notes other : List ℕ) (i : ℕ) → length notes ≡ capacity * threads → length other ≡ capacity * threads → i < capacity
    → ((u : ℕ) → u < threads → note_at other i u ≡ note_at notes i u) → notes_of other i ≡ notes_of notes i
notes_agree notes other i d e l f =
    ext_get_or 0 (notes_of other i) (notes_of notes i) (notes_length other i e l ∙ sym (notes_length notes i d l)) (λ u m.
    let k : u < threads = omega (arith, notes_length other i e l) in
    note_in other i u k ∙ f u k ∙ sym (note_in notes i u k))

-- what an invoke writes

module _ (done : List ℕ) (own i : ℕ) (notes : List ℕ) where
  pub with_length : (n : ℕ) → length (notes_with done own i notes n) ≡ length notes
  unfolding notes_with
  with_length zero = refl
  with_length (suc n) = length-set (notes_with done own i notes n) _ _ ∙ with_length n

  -- of the operations before it, nothing
  pub with_before : (n j : ℕ) → j < i * threads → get_or (notes_with done own i notes n) j 0 ≡ get_or notes j 0
  unfolding notes_with
  with_before zero j l = refl
  with_before (suc n) j l = get_or-set_other (notes_with done own i notes n) (i * threads + n) j _ 0 (λ z. omega arith) ∙ with_before n j l

  -- of itself, what can be noted
  pub with_own : (n u : ℕ) → u < n → i * threads + n ≤ length notes → note_at (notes_with done own i notes n) i u ≡ notable (get_or done u 0) own u
  unfolding notes_with
  with_own zero u l m = absurd (omega arith)
  with_own (suc n) u l m = go (ltb u n) refl (λ k. with_own n u k (omega arith))
    where
      go : (b : Bool) → ltb u n ≡ b → (u < n → note_at (notes_with done own i notes n) i u ≡ notable (get_or done u 0) own u)
          → get_or (set (notes_with done own i notes n) (i * threads + n) (notable (get_or done n 0) own n)) (i * threads + u) 0 ≡ notable (get_or done u 0) own u
      go true z f =
          let k = ltb-true u n z in
          get_or-set_other (notes_with done own i notes n) (i * threads + n) (i * threads + u) _ 0 (λ y. omega arith) ∙ f k
      go false z f =
          let k : u ≡ n = omega (arith, ltb-false u n z) in
          rw k (get_or-set_same (notes_with done own i notes n) (i * threads + n) _ 0 (omega (arith, with_length n)))

-- what can be noted

pub notable_own : (d u : ℕ) → notable d u u ≡ 0
unfolding notable
notable_own d u = rw (eq-eqb u u refl)

pub notable_other : (d own u : ℕ) → u ≢ own → notable d own u ≡ d
unfolding notable
notable_other d own u z = rw (ne_eqb u own z)

-- An invoke notes what history's linearizable recorder does.
pub noted_rows : (needs : ℕ → List ℕ) (h : History) (own : ℕ) (notes : List ℕ) → Parts h → length notes ≡ capacity * threads → h.count < capacity
    → own < threads → notes_of (notes_with h.done own h.count notes threads) h.count ≡ history_notes families (rows_of needs h) own
noted_rows needs h own notes w e l o =
    let rows = rows_of needs h in
    let new = notes_with h.done own h.count notes threads in
    let k : length (notes_of new h.count) ≡ threads
    = notes_length new h.count (with_length h.done own h.count notes threads ∙ e) l in
    let m : length (map (completed_of families) rows) ≡ threads = length-map rows (completed_of families) ∙ rows_many needs h in
    let same : (u : ℕ) → u < threads → get_or (history_notes families rows own) u 0 ≡ notable (get_or h.done u 0) own u
    = own_or_other (λ u. u < threads → get_or (history_notes families rows own) u 0 ≡ notable (get_or h.done u 0) own u) own
    (λ b. get_or-set_same (map (completed_of families) rows) own 0 0 (omega arith) ∙ sym (notable_own (get_or h.done own 0) own))
    (λ u d b. get_or-set_other (map (completed_of families) rows) own u 0 0 d
    ∙ get_or-map (completed_of families) rows u []
    ∙ rows_done needs h w u b
    ∙ sym (notable_other (get_or h.done u 0) own u d)) in
    ext_get_or 0 (notes_of new h.count) (history_notes families rows own) (k ∙ sym (length-set (map (completed_of families) rows) own 0 ∙ m)) (λ u b.
    let c : u < threads = omega arith in
    note_in new h.count u c
    ∙ with_own h.done own h.count notes threads u c (omega arith)
    ∙ sym (same u c))
