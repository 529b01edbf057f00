-- The shape of notes, place by place, and that calls keep it.
use Prim.Native.Nat.{ℕ, zero, suc, ◌+◌, ◌*◌, ◌<◌, ◌≤◌}
use Rattle.std.specs.Prelude.{◌≡◌, Bool, true, false, length, get_or, set, eqb, ltb, Some, None}
use Rattle.std.proofs.Math.Path.{refl, subst}
use Rattle.std.proofs.Common.{sym, ap, ◌∙◌, length-take, get_or-set_same, get_or-set_other, get_or-take}
use mathlib.Core.List.{List, [], ◌∷◌}
use Rattle.std.proofs.Math.ListN.{get_or-map}
use Rattle.std.proofs.Math.Seq.{map-set_same}
use Rattle.std.proofs.Math.Dec.{leb}
use borrow.Author.Tests.{ltb-true, ltb-false, leb-true, le-leb}
use native.Mathlib.Omega.{arith}
use Rattle.history.specs.Lists.{own_or_other}
use Rattle.values.specs.Value.{pick}
use Rattle.values.specs.Sizes.{threads, capacity}
use Rattle.families.specs.declared.Op.{Op}
use Rattle.families.specs.declared.Ret.{Ret}
use Rattle.stepping.specs.declared.histories.Operation.{Operation}
use Rattle.stepping.specs.declared.histories.History.{History}
use Rattle.recording.specs.declared.linearizability.LinearizabilityTester.{LinearizabilityTester}
use Rattle.stepping.specs.Record.{operation, blank_operation, held, operation_at, extended, completed}
use Rattle.stepping.specs.Shape.{note_at, notable, notes_fit, notes_fit_from}
use Rattle.recording.specs.Testers.{notes_shaped}
use Rattle.shape.specs.Notes.{notes_in, notes_with}
use Rattle.recording_meaning.specs.Reading.{Sized}
use Rattle.recording_meaning.specs.Parts.{pick_left, pick_right, pick_both, below_each, each_below}
use Rattle.recording_meaning.specs.Noting.{with_before, with_own}

-- the test, operation by operation

module _ (done notes : List ℕ) where
  fit_at : (i k j : ℕ) (os : List Operation) → notes_fit_from done notes i os ≡ true → j ≡ i + k → k < length os
      → notes_fit done notes j (get_or os k blank_operation).thread ≡ true
  unfolding notes_fit_from
  fit_at i k j [] e z l = absurd (omega arith)
  fit_at i zero j (o ∷ os) e z l =
      let y : j ≡ i = omega arith in
      rw y (pick_left (notes_fit done notes i o.thread) (notes_fit_from done notes (i + 1) os) e)
  fit_at i (suc k) j (o ∷ os) e z l =
      fit_at (i + 1) k j os (pick_right (notes_fit done notes i o.thread) (notes_fit_from done notes (i + 1) os) e) (omega arith) (omega arith)

  at_fit : (i : ℕ) (os : List Operation)
      → ((k j : ℕ) → j ≡ i + k → k < length os → notes_fit done notes j (get_or os k blank_operation).thread ≡ true) → notes_fit_from done notes i os ≡ true
  unfolding notes_fit_from
  at_fit i [] f = refl
  at_fit i (o ∷ os) f =
      pick_both (notes_fit done notes i o.thread) (notes_fit_from done notes (i + 1) os) (f 0 i (omega arith) (omega arith))
      (at_fit (i + 1) os (λ k j e l. f (suc k) j (omega arith) (omega arith)))

-- No note is above what can be noted.
pub record NotesParts (h : History) (notes : List ℕ) : Type 0 where
  pub few : h.count ≤ capacity
  pub most : (i : ℕ) → i < h.count → (u : ℕ) → u < threads → note_at notes i u ≤ notable (get_or h.done u 0) (operation_at h i).thread u

module _ (s : LinearizabilityTester) (z : Sized s.history) where
  held_many : s.history.count ≤ capacity → length (held s.history) ≡ s.history.count
  held_many l = omega (arith, length-take s.history.count s.history.ops)

  at_held : (i : ℕ) → i < s.history.count → get_or (held s.history) i blank_operation ≡ operation_at s.history i
  at_held i l = get_or-take s.history.count s.history.ops i blank_operation l

  pub notes_parts : notes_shaped s ≡ true → NotesParts s.history s.notes
  unfolding notes_in notes_fit
  notes_parts e =
      let few : s.history.count ≤ capacity = leb-true _ _ (pick_left (leb s.history.count capacity) _ e) in
      record {
        few = few;
        most = λ i l u m.
            let y = fit_at s.history.done s.notes 0 i i (held s.history) (pick_right (leb s.history.count capacity) _ e) (omega arith)
            (omega (arith, held_many few)) in
            let x = below_each (λ v. leb (note_at s.notes i v) (notable (get_or s.history.done v 0) (get_or (held s.history) i blank_operation).thread v))
            threads y u m in
            subst (λ (o : Operation). note_at s.notes i u ≤ notable (get_or s.history.done u 0) o.thread u) (at_held i l) (leb-true _ _ x);
      }

  pub of_notes_parts : NotesParts s.history s.notes → notes_shaped s ≡ true
  unfolding notes_in notes_fit
  of_notes_parts w =
      pick_both (leb s.history.count capacity) _ (le-leb _ _ w.few)
      (at_fit s.history.done s.notes 0 (held s.history) (λ k j e l.
      let y : j ≡ k = omega arith in
      let m : k < s.history.count = omega (arith, held_many w.few) in
      rw y (each_below (λ v. leb (note_at s.notes k v) (notable (get_or s.history.done v 0) (get_or (held s.history) k blank_operation).thread v))
      threads (λ u b. le-leb _ _ (subst (λ (o : Operation). note_at s.notes k u ≤ notable (get_or s.history.done u 0) o.thread u)
      (sym (at_held k m)) (w.most k m u b))))))

-- what can be noted grows with what has completed
notable_grows : (d e own u : ℕ) → d ≤ e → notable d own u ≤ notable e own u
unfolding notable
notable_grows d e own u l = go (eqb u own)
  where
    go : (b : Bool) → pick b 0 d ≤ pick b 0 e
    go true = omega arith
    go false = l

done_grows : (done : List ℕ) (t u : ℕ) → t < length done → get_or done u 0 ≤ get_or (set done t (get_or done t 0 + 1)) u 0
done_grows done t u l =
    own_or_other (λ u. get_or done u 0 ≤ get_or (set done t (get_or done t 0 + 1)) u 0) t (omega (arith, get_or-set_same done t (get_or done t 0 + 1) 0 l))
    (λ u d. omega (arith, get_or-set_other done t u (get_or done t 0 + 1) 0 d)) u

-- the thread of an operation stays
thread_kept : (h : History) (i j t : ℕ) (ret : Ret) → (operation_at (completed h i t ret) j).thread ≡ (operation_at h j).thread
thread_kept h i j t ret =
    let o : Operation = operation (operation_at h i).thread (operation_at h i).op (Some ret) in
    let f : Operation → ℕ = λ p. p.thread in
    sym (get_or-map f (set h.ops i o) j blank_operation)
    ∙ ap (λ (l : List ℕ). get_or l j 0) (map-set_same f h.ops i o blank_operation refl)
    ∙ get_or-map f h.ops j blank_operation

module _ (h : History) (notes : List ℕ) (z : Sized h) (w : NotesParts h notes) (t : ℕ) (low : t < threads) where
  pub notes_extended : (op : Op) → length notes ≡ capacity * threads → h.count < capacity
      → NotesParts (extended h t op) (notes_with h.done t h.count notes threads)
  notes_extended op e l = record { few = omega arith; most = λ i m u b. go i (ltb i h.count) refl (omega arith) u b }
    where
      go : (i : ℕ) (c : Bool) → ltb i h.count ≡ c → i ≤ h.count → (u : ℕ) → u < threads
          → note_at (notes_with h.done t h.count notes threads) i u ≤ notable (get_or h.done u 0) (operation_at (extended h t op) i).thread u
      go i true y m u b =
          let k = ltb-true i h.count y in
          rw (
            with_before h.done t h.count notes threads (i * threads + u) (omega arith),
            get_or-set_other h.ops h.count i (operation t op None) blank_operation (λ x. omega arith),
          ) (w.most i k u b)
      go i false y m u b =
          let k : i ≡ h.count = omega (arith, ltb-false i h.count y) in
          rw (
            k,
            with_own h.done t h.count notes threads u b (omega arith),
            get_or-set_same h.ops h.count (operation t op None) blank_operation (omega (arith, z.places)),
          ) (omega arith)

  pub notes_completed : (i : ℕ) (ret : Ret) → NotesParts (completed h i t ret) notes
  notes_completed i ret = record {
    few = w.few;
    most = λ j m u b.
        let grown = notable_grows (get_or h.done u 0) (get_or (set h.done t (get_or h.done t 0 + 1)) u 0) (operation_at h j).thread u
        (done_grows h.done t u (omega (arith, z.counters))) in
        rw (thread_kept h i j t ret) (omega (arith, w.most j m u b));
  }
