-- The tests of shape are exactly the shape that the records InShape and NotesInShape spell out.
use Rattle.std.specs.Prelude.{ℕ, zero, suc, ◌<◌, ◌≤◌, ◌≡◌, refl, ◌≢◌, ◌↔◌, Bool, true, false, List, [], ◌∷◌, length, get_or, eqb, Option, Some, None, Ok}
use Rattle.std.proofs.Common.{sym, ap, ◌∙◌, subst, length-take, get_or-take, ne_eqb, arith}
use Rattle.std.proofs.lemmas.Bool.{eqb-false}
use Rattle.history.specs.Lists.{not_both, own_or_other}
use Rattle.values.specs.Value.{pick}
use Rattle.values.specs.Sizes.{threads, capacity}
use Rattle.families.specs.Refusals.{ret_belongs}
use Rattle.families.specs.Room.{clear_yes}
use Rattle.families.specs.declared.Kind.{Kind}
use Rattle.families.specs.declared.Ret.{Ret}
use Rattle.stepping.specs.declared.histories.Operation.{Operation}
use Rattle.stepping.specs.declared.histories.History.{History}
use Rattle.recording.specs.declared.linearizability.LinearizabilityTester.{LinearizabilityTester}
use Rattle.stepping.specs.Record.{blank_operation, held, operation_at, is_pending}
use Rattle.stepping.specs.Shape.{kind_of, InShape, NotesInShape, note_at, notable, outcome_fits, operation_fits, operations_fit, none_of, flying_last, shape_of}
use Rattle.recording.specs.Testers.{notes_shaped}
use Rattle.recording.specs.Testers.{shaped_tester}
use Rattle.recording_meaning.specs.Reading.{Sized}
use Rattle.recording_meaning.specs.Parts.{pick_left, pick_right, pick_both, OperationParts, operation_parts, operation_fits_lem, Parts, parts_of, of_parts}
use Rattle.recording_meaning.specs.Exchanges.{ends, last_first, last_rest}
use Rattle.recording_meaning.specs.Noting.{notable_own, notable_other}
use Rattle.recording_meaning.specs.NotesKeeping.{NotesParts, notes_parts, of_notes_parts}

-- the operation at a place of a list
abbrev at : List Operation → ℕ → Operation
at os i = get_or os i blank_operation

-- each operation fits

fit_each : (k : Kind) (os : List Operation) → operations_fit k os ≡ true → (i : ℕ) → i < length os → OperationParts k (at os i)
unfolding operations_fit
fit_each k [] e i l = absurd (omega arith)
fit_each k (o ∷ os) e zero l = operation_parts k o (pick_left (operation_fits k o) (operations_fit k os) e)
fit_each k (o ∷ os) e (suc i) l = fit_each k os (pick_right (operation_fits k o) (operations_fit k os) e) i (omega arith)

each_fit : (k : Kind) (os : List Operation) → ((i : ℕ) → i < length os → OperationParts k (at os i)) → operations_fit k os ≡ true
unfolding operations_fit
each_fit k [] w = refl
each_fit k (o ∷ os) w =
    pick_both (operation_fits k o) (operations_fit k os) (operation_fits_lem k o (w 0 (omega arith))) (each_fit k os (λ i l. w (suc i) (omega arith)))

-- a return of the object's own

answered_own : (k : Kind) (o : Option Ret) (r : Ret) → outcome_fits k o ≡ true → o ≡ Some r → ret_belongs k r ≡ Ok tt
unfolding outcome_fits
answered_own k o r e z = (clear_yes (ret_belongs k r)).0 (subst (λ (x : Option Ret). outcome_fits k x ≡ true) z e)

own_answered : (k : Kind) (o : Option Ret) → ((r : Ret) → o ≡ Some r → ret_belongs k r ≡ Ok tt) → outcome_fits k o ≡ true
unfolding outcome_fits
own_answered k None w = refl
own_answered k (Some r) w = (clear_yes (ret_belongs k r)).1 (w r refl)

-- no operation of a thread

none_each : (t : ℕ) (os : List Operation) → none_of t os ≡ true → (i : ℕ) → i < length os → (at os i).thread ≢ t
unfolding none_of
none_each t [] e i l = absurd (omega arith)
none_each t (o ∷ os) e i l = go (eqb o.thread t) refl e i l (λ z j m. none_each t os z j m)
  where
    go : (b : Bool) → eqb o.thread t ≡ b → pick b false (none_of t os) ≡ true → (i : ℕ) → i < length (o ∷ os)
        → (none_of t os ≡ true → (j : ℕ) → j < length os → (at os j).thread ≢ t) → (at (o ∷ os) i).thread ≢ t
    go true z e i l f = not_both e refl
    go false z e zero l f = eqb-false o.thread t z
    go false z e (suc i) l f = f e i (omega arith)

each_none : (t : ℕ) (os : List Operation) → ((i : ℕ) → i < length os → (at os i).thread ≢ t) → none_of t os ≡ true
unfolding none_of
each_none t [] w = refl
each_none t (o ∷ os) w = rw (ne_eqb o.thread t (w 0 (omega arith))) (each_none t os (λ i l. w (suc i) (omega arith)))

-- each operation in flight is its thread's last

abbrev Last : List Operation → Type 0
Last os = (i j : ℕ) → i < j → j < length os → (at os i).thread ≡ (at os j).thread → is_pending (at os i).outcome ≡ false

ends_off : (b : Bool) (t : ℕ) (os : List Operation) → pick b (none_of t os) true ≡ true → (j : ℕ) → j < length os → t ≡ (at os j).thread → b ≡ false
ends_off true t os e j l s = absurd (none_each t os e j l (sym s))
ends_off false t os e j l s = refl

last_each : (os : List Operation) → flying_last os ≡ true → Last os
last_each [] e i j l m s = absurd (omega arith)
last_each (o ∷ os) e i zero l m s = absurd (omega arith)
last_each (o ∷ os) e zero (suc j) l m s = ends_off (is_pending o.outcome) o.thread os (last_first o os e) j (omega arith) s
last_each (o ∷ os) e (suc i) (suc j) l m s = last_each os (last_rest o os e) i j (omega arith) (omega arith) s

each_last : (os : List Operation) → Last os → flying_last os ≡ true
unfolding flying_last
each_last [] w = refl
each_last (o ∷ os) w =
    pick_both (ends o os) (flying_last os) (go (is_pending o.outcome) refl) (each_last os (λ i j l m s. w (suc i) (suc j) (omega arith) (omega arith) s))
  where
    go : (b : Bool) → is_pending o.outcome ≡ b → pick b (none_of o.thread os) true ≡ true
    go true e = each_none o.thread os (λ j l d. not_both e (w 0 (suc j) (omega arith) (omega arith) (sym d)))
    go false e = refl

-- the places of a history

module _ (h : History) (z : Sized h) where
  many : h.count ≤ capacity → length (held h) ≡ h.count
  many l = omega (arith, length-take h.count h.ops)

  there : (i : ℕ) → i < h.count → at (held h) i ≡ operation_at h i
  there i l = get_or-take h.count h.ops i blank_operation l

  parts_in_shape : Parts h → InShape h
  parts_in_shape w =
      let n = many w.few in
      let f : (i : ℕ) → i < h.count → OperationParts (kind_of h) (operation_at h i)
      = λ i l. subst (OperationParts (kind_of h)) (there i l) (fit_each (kind_of h) (held h) w.fit i (omega arith)) in
      record {
        few = w.few;
        startable = w.startable;
        known = λ i l. (f i l).known;
        own_op = λ i l. (f i l).own;
        own_ret = λ i l r e. answered_own (kind_of h) (operation_at h i).outcome r (f i l).answered e;
        last = λ i j l m s.
            let k : i < h.count = omega arith in
            subst (λ (o : Operation). is_pending o.outcome ≡ false) (there i k)
            (last_each (held h) w.last i j l (omega arith)
            (ap (λ (o : Operation). o.thread) (there i k) ∙ s ∙ ap (λ (o : Operation). o.thread) (sym (there j m))));
        counted = w.counted;
      }

  in_shape_parts : InShape h → Parts h
  in_shape_parts w =
      let n = many w.few in
      record {
        few = w.few;
        startable = w.startable;
        fit = each_fit (kind_of h) (held h) (λ i l.
            let k : i < h.count = omega arith in
            subst (OperationParts (kind_of h)) (sym (there i k)) (record {
              known = w.known i k;
              own = w.own_op i k;
              answered = own_answered (kind_of h) (operation_at h i).outcome (w.own_ret i k);
            }));
        last = each_last (held h) (λ i j l m s.
            let k : i < h.count = omega arith in
            let b : j < h.count = omega arith in
            subst (λ (o : Operation). is_pending o.outcome ≡ false) (sym (there i k))
            (w.last i j l b (ap (λ (o : Operation). o.thread) (sym (there i k)) ∙ s ∙ ap (λ (o : Operation). o.thread) (there j b))));
        counted = w.counted;
      }

  -- A history is in shape exactly if the test says so.
  pub shape_exactly : InShape h ↔ shape_of h ≡ true
  shape_exactly = (λ w. of_parts h (in_shape_parts w), λ e. parts_in_shape (parts_of h e))

-- A linearizability tester is in shape exactly if its history and its notes are.
module _ (s : LinearizabilityTester) (z : Sized s.history) where
  in_shape_notes : NotesInShape s.history s.notes → s.history.count ≤ capacity → NotesParts s.history s.notes
  in_shape_notes w l = record {
    few = l;
    most = λ i m. own_or_other
        (λ u. u < threads → note_at s.notes i u ≤ notable (get_or s.history.done u 0) (operation_at s.history i).thread u)
        (operation_at s.history i).thread
        (λ b. omega (arith, w.not_own i m))
        (λ u d b. rw (notable_other (get_or s.history.done u 0) (operation_at s.history i).thread u d) (w.completed i m u b));
  }

  notes_in_shape : NotesParts s.history s.notes → InShape s.history → NotesInShape s.history s.notes
  notes_in_shape w v =
      let own : (i : ℕ) → i < s.history.count → note_at s.notes i (operation_at s.history i).thread ≡ 0
      = λ i m. let o = (operation_at s.history i).thread in
      omega (arith, w.most i m o (v.known i m), notable_own (get_or s.history.done o 0) o) in
      record {
        not_own = own;
        completed = λ i m. own_or_other (λ u. u < threads → note_at s.notes i u ≤ get_or s.history.done u 0) (operation_at s.history i).thread
            (λ b. omega (arith, own i m))
            (λ u d b. omega (arith, w.most i m u b, notable_other (get_or s.history.done u 0) (operation_at s.history i).thread u d));
      }

  pub tester_exactly : InShape s.history × NotesInShape s.history s.notes ↔ shaped_tester s ≡ true
  tester_exactly = (
    λ w. pick_both (notes_shaped s) (shape_of s.history) (of_notes_parts s z (in_shape_notes w.1 w.0.few)) ((shape_exactly s.history z).0 w.0),
    λ e. let v = (shape_exactly s.history z).1 (pick_right (notes_shaped s) (shape_of s.history) e) in
        (v, notes_in_shape (notes_parts s z (pick_left (notes_shaped s) (shape_of s.history) e)) v),
  )
