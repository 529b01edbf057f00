-- What the loop of the pass keeps, and what it answers.
use Rattle.std.proofs.Common.{ℕ, zero, suc, ◌&&◌, ◌+◌, ◌<◌, ◌≤◌, ◌≡◌, refl, sym, ap, ◌∙◌, Bool, true, false, List, [], ◌∷◌, arith, length, replicate, drop, drop_of_length-le, length-set, le-leb, leb-true, ltb-true, Option, Some, None}
use Rattle.std.specs.Prelude.{ltb, leb, eqb, is_ok}
use lib.Pointwise.{pointwise}
use Rattle.std.proofs.Math.ListN.{get_or}
use Rattle.std.proofs.lemmas.List.{length-replicate}
use Rattle.values.specs.Value.{pick}
use Rattle.values.specs.Sizes.{threads, capacity}
use Rattle.families.specs.Refusals.{op_belongs, start_check}
use Rattle.families.specs.declared.Kind.{Kind}
use Rattle.stepping.specs.declared.histories.Operation.{Operation}
use Rattle.stepping.specs.declared.histories.History.{History}
use Rattle.stepping.specs.Record.{blank_operation, held, find_flying}
use Rattle.stepping.specs.Shape.{kind_of, all_below, outcome_fits, operation_fits, shape_of, shaped_with}
use Rattle.shape.specs.Pass.{marks_from, look_of, sizes_fit, goes_on, counts_in, left_after, flying_after, none_left}
use Rattle.values.specs.SameValues.{both}
use Rattle.stepping.specs.RecordLaws.{drop_more, neither, never}
use Rattle.shape.specs.Marking.{marks_are}
use Rattle.shape.proofs.Passing.{rest, located, rest_start, located_start, rest_end, located_end, rest_unfit, rest_no, rest_yes, located_step}
use Rattle.families.specs.declared.Ret.{Ret}

-- before the operation at place i
pub record Looking (h : History) (f : Kind) (flying : List (Option ℕ)) (left : List ℕ) (i : ℕ) : Type 0 where
  pub left_long : length left ≡ threads
  pub flying_long : length flying ≡ threads
  pub same : rest f left flying (drop i (held h)) ≡ shape_of h
  pub placed : (t : ℕ) → located t i flying (drop i (held h)) ≡ find_flying t h

pub look_start : (h : History) (f : Kind) → f ≡ kind_of h → h.count ≤ capacity → is_ok (start_check f) ≡ true
    → length h.done ≡ threads → Looking h f (replicate threads None) h.done 0
look_start h f e a b l = record {
  left_long = l;
  flying_long = length-replicate {A = Option ℕ} threads None;
  same = rw e (rest_start h (le-leb _ _ a) (rw e at b));
  placed = located_start h;
}

-- an operation that fits is of one of the threads
pub fits_known : (f : Kind) (o : Operation) → operation_fits f o ≡ true → o.thread < threads
unfolding operation_fits
fits_known f o e =
    ltb-true _ _ (both (ltb o.thread threads) (pick (is_ok (op_belongs f o.op)) (outcome_fits f o.outcome) false) e).0

left_length : (left : List ℕ) (o : Operation) → length (left_after left o) ≡ length left
unfolding left_after
left_length left o = go o.outcome refl
  where
    go : (out : Option Ret) → o.outcome ≡ out → length (left_after left o) ≡ length left
    go None e = rw e refl
    go (Some r) e = rw e (length-set left _ _)

flying_length : (i : ℕ) (flying : List (Option ℕ)) (o : Operation) → length (flying_after i flying o) ≡ length flying
unfolding flying_after
flying_length i flying o = go o.outcome refl
  where
    go : (out : Option Ret) → o.outcome ≡ out → length (flying_after i flying o) ≡ length flying
    go None e = rw e (length-set flying _ _)
    go (Some r) e = rw e refl

module _ (h : History) (f : Kind) (flying : List (Option ℕ)) (left : List ℕ) (i : ℕ) (k : Looking h f flying left i) where
  abbrev here : Operation
  here = get_or (held h) i blank_operation

  next : i < length (held h) → drop i (held h) ≡ here ∷ drop (i + 1) (held h)
  next l = drop_more (held h) i blank_operation l

  pub look_no : i < length (held h) → (counts : Bool) → counts ≡ counts_in f left flying here → counts ≡ false → shape_of h ≡ false
  unfolding counts_in
  look_no l counts p q = sym k.same ∙ ap (rest f left flying) (next l) ∙ go (operation_fits f here) refl
    where
      os : List Operation
      os = drop (i + 1) (held h)

      go : (b : Bool) → operation_fits f here ≡ b → rest f left flying (here ∷ os) ≡ false
      go false g = rest_unfit f left flying here os g
      go true g = rest_no f left flying here os (fits_known f here g) (rw g at (sym p ∙ q))

  pub look_more : i < length (held h) → (counts : Bool) → counts ≡ counts_in f left flying here → counts ≡ true
      → (flying₁ : List (Option ℕ)) (left₁ : List ℕ) → flying₁ ≡ flying_after i flying here → left₁ ≡ left_after left here
      → Looking h f flying₁ left₁ (i + 1)
  unfolding counts_in
  look_more l counts p q flying₁ left₁ x y =
      let c : counts_in f left flying here ≡ true = sym p ∙ q in
      let w = both (operation_fits f here) (goes_on left flying here) c in
      let g = w.0 in
      let e = w.1 in
      let t = fits_known f here g in
      let a : here.thread < length left = rw k.left_long t in
      let b : here.thread < length flying = rw k.flying_long t in
      record {
        left_long = rw y (left_length left here ∙ k.left_long);
        flying_long = rw x (flying_length i flying here ∙ k.flying_long);
        same = rw (x, y) (sym (rest_yes f i left flying here (drop (i + 1) (held h)) a b g e) ∙ ap (rest f left flying) (sym (next l))
            ∙ k.same);
        placed = λ t. rw x (sym (located_step t i left flying here (drop (i + 1) (held h)) b e) ∙ ap (located t i flying) (sym
            (next l)) ∙ k.placed t);
      }

  past : length (held h) ≤ i → drop i (held h) ≡ []
  past l = drop_of_length-le (held h) l

  pub look_end : length (held h) ≤ i → (noted : Bool) → noted ≡ true → (none : Bool) → none ≡ none_left left → shaped_with noted h ≡ none
  look_end l noted n none e =
      ap (λ (b : Bool). pick b (shape_of h) false) n ∙ sym k.same ∙ ap (rest f left flying) (past l) ∙ sym (rest_end f left flying) ∙ sym e

  -- at the end the marks are those of all threads
  pub look_marks : length (held h) ≤ i → flying ≡ marks_from 0 threads h
  look_marks l = marks_are h 0 threads flying k.flying_long (λ t m.
      let z : t ≡ t + 0 = omega arith in
      sym (located_end t i flying) ∙ ap (located t i flying) (sym (past l)) ∙ k.placed t ∙ ap (λ (u : ℕ). find_flying u h) z)

-- nothing is left of any thread where a list of so many zeros is the same

below_first : (p : ℕ → Bool) (n : ℕ) → all_below p (suc n) ≡ pick (p 0) (all_below (λ t. p (suc t)) n) false
unfolding all_below
below_first p zero = go (p 0)
  where
    go : (b : Bool) → pick true b false ≡ pick b true false
    go true = refl
    go false = refl
below_first p (suc n) = rw (below_first p n) (go (p 0) (all_below (λ t. p (suc t)) n) (p (suc n)))
  where
    go : (a b c : Bool) → pick (pick a b false) c false ≡ pick a (pick b c false) false
    go true b c = refl
    go false b c = refl

all_zero : (n : ℕ) (l : List ℕ) → length l ≡ n → pointwise eqb l (replicate n 0) ≡ all_below (λ t. eqb (get_or l t 0) 0) n
unfolding all_below
all_zero zero [] e = refl
all_zero zero (x ∷ l) e = absurd (omega (arith, e))
all_zero (suc n) [] e = absurd (omega (arith, e))
all_zero (suc n) (x ∷ l) e =
    let k : length l ≡ n = omega (arith, e) in
    rw (below_first (λ t. eqb (get_or (x ∷ l) t 0) 0) n, all_zero n l k) (go (eqb x 0) (all_below (λ t. eqb (get_or l t 0) 0) n))
  where
    go : (a b : Bool) → (a && b) ≡ pick a b false
    go true b = refl
    go false b = refl

pub zeros_left : (left : List ℕ) (b : Bool) → length left ≡ threads → b ≡ pointwise eqb left (replicate threads 0) → b ≡ none_left left
unfolding none_left
zeros_left left b l e = e ∙ all_zero threads left l

-- in shape, or out of it

pub look_yes : (shaped : Bool) (h : History) → shaped ≡ true → (flying : List (Option ℕ)) → flying ≡ marks_from 0 threads h → Some flying ≡ look_of shaped h
unfolding look_of
look_yes shaped h e flying m = rw (e, m) refl

pub look_out : (shaped : Bool) (h : History) → shaped ≡ false → None ≡ look_of shaped h
unfolding look_of
look_out shaped h e = rw e refl

pub shaped_no : (noted : Bool) (h : History) → shape_of h ≡ false → shaped_with noted h ≡ false
shaped_no noted h e = rw e (neither noted)

-- the sizes fit, or not

pub sizes_yes : (noted : Bool) (count : ℕ) (k : Kind) → sizes_fit noted count k ≡ true → (noted ≡ true) × ((count ≤ capacity) × (is_ok (start_check k) ≡ true))
unfolding sizes_fit
sizes_yes noted count k e =
    let a = both noted (pick (leb count capacity) (is_ok (start_check k)) false) e in
    let b = both (leb count capacity) (is_ok (start_check k)) a.1 in
    (a.0, (leb-true _ _ b.0, b.1))

pub sizes_no : (noted : Bool) (h : History) → sizes_fit noted h.count (kind_of h) ≡ false → shaped_with noted h ≡ false
unfolding sizes_fit shape_of
sizes_no noted h e = go noted (leb h.count capacity) (is_ok (start_check (kind_of h))) _ e
  where
    go : (n c d x : Bool) → pick n (pick c d false) false ≡ false → pick n (pick c (pick d x false) false) false ≡ false
    go false c d x z = refl
    go true false d x z = refl
    go true true false x z = refl
    go true true true x z = never (sym z)
