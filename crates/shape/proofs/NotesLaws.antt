-- Laws of notes: how they are written one after the other, and when they are in shape.
use Rattle.std.specs.Prelude.{ℕ, ◌+◌, ◌*◌, ◌<◌, ◌≤◌, ◌≡◌, Bool, true, false, List, length, get_or, set, drop}
use Rattle.std.proofs.Math.Path.{refl}
use Rattle.std.proofs.Common.{sym, ◌∙◌, add-one, le-leb, drop_of_length-le}
use Rattle.stepping.specs.RecordLaws.{drop_more}
use Rattle.std.proofs.lemmas.Bool.{lt-leb}
use Rattle.values.specs.Value.{pick}
use Rattle.values.specs.Sizes.{threads, capacity}
use Rattle.stepping.specs.declared.histories.History.{History}
use Rattle.stepping.specs.declared.histories.Operation.{Operation}
use Rattle.stepping.specs.Record.{blank_operation, held}
use Rattle.stepping.specs.Shape.{notable, notes_fit, notes_fit_from}
use Rattle.shape.specs.Notes.{notes_in, notes_with, noted_at}

-- notes that are written one after the other
pub note_more : (done : List ℕ) (own at : ℕ) (notes₀ notes : List ℕ) (u n : ℕ) → notes ≡ notes_with done own at notes₀ u
    → n ≡ notable (get_or done u 0) own u → set notes (at * threads + u) n ≡ notes_with done own at notes₀ (u + 1)
unfolding notes_with
note_more done own at notes₀ notes u n e q = rw (add-one, e, q) refl

-- the notes of the operations from place i on
module _ (h : History) (notes : List ℕ) (i : ℕ) where
  abbrev here : Operation
  here = get_or (held h) i blank_operation

  abbrev from_here : Bool
  from_here = notes_fit_from h.done notes i (drop i (held h))

  step_on : i < length (held h) → (b : Bool) → b ≡ notes_fit h.done notes i here.thread
      → from_here ≡ pick b (notes_fit_from h.done notes (i + 1) (drop (i + 1) (held h))) false
  unfolding notes_fit_from
  step_on l b e = rw (drop_more (held h) i blank_operation l, e) refl

  pub notes_yes : i < length (held h) → (fit : Bool) → fit ≡ notes_fit h.done notes i here.thread → fit ≡ true
      → (all : Bool) → from_here ≡ all → notes_fit_from h.done notes (i + 1) (drop (i + 1) (held h)) ≡ all
  notes_yes l fit e y all a = sym (step_on l true (sym y ∙ e)) ∙ a

  pub notes_no : i < length (held h) → (fit : Bool) → fit ≡ notes_fit h.done notes i here.thread → fit ≡ false
      → (all : Bool) → from_here ≡ all → all ≡ false
  notes_no l fit e n all a = sym a ∙ step_on l false (sym n ∙ e)

  pub notes_end : length (held h) ≤ i → notes_fit_from h.done notes i (drop i (held h)) ≡ true
  unfolding notes_fit_from
  notes_end l = rw (drop_of_length-le (held h) l) refl

pub notes_all : (h : History) (notes : List ℕ) (b : Bool) → h.count ≤ capacity → notes_fit_from h.done notes 0 (held h) ≡ b
    → b ≡ notes_in h notes
unfolding notes_in
notes_all h notes b l e = rw (le-leb _ _ l) (sym e)

-- the notes, at a place that an operation can have
pub noted_in : (done : List ℕ) (own i : ℕ) (notes : List ℕ) → i < capacity → noted_at done own i notes ≡ notes_with done own i notes threads
unfolding noted_at
noted_in done own i notes l = rw (lt-leb capacity i l) refl
