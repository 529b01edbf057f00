-- The marks that the pass hands back say where each thread has its operation in flight.
use Rattle.std.specs.Prelude.{ℕ, zero, suc, ◌+◌, ◌-◌, ◌<◌, ◌≡◌, refl, Bool, true, false, List, [], ◌∷◌, map, length, get_or, eqb, is_some, Option, Some, None}
use Rattle.std.proofs.Common.{sym, ap, ◌∙◌, arith, eqb-true, ne_eqb}
use Rattle.std.proofs.Math.ListN.{get_or-map}
use Rattle.std.proofs.lemmas.Bool.{eqb-false}
use Rattle.values.specs.Value.{pick}
use Rattle.values.specs.Sizes.{threads}
use Rattle.stepping.specs.declared.histories.History.{History}
use Rattle.stepping.specs.Record.{find_flying}
use Rattle.stepping.specs.StepChecks.{Known}
use Rattle.stepping.specs.RecordLaws.{never}
use Rattle.shape.specs.Pass.{marks_from, marks_in, look_of}

-- the mark of a thread among those of n threads from t on
mark_at : (h : History) (t n i : ℕ) → i < n → get_or (marks_from t n h) i None ≡ find_flying (i + t) h
unfolding marks_from
mark_at h t zero i l = absurd (omega arith)
mark_at h t (suc n) zero l = let e : 0 + t ≡ t = omega arith in rw e refl
mark_at h t (suc n) (suc i) l =
    let k : i < n = omega arith in
    let e : i + suc t ≡ suc i + t = omega arith in
    mark_at h (suc t) n i k ∙ ap (λ (u : ℕ). find_flying u h) e

-- n marks that are each their thread's are those
pub marks_are : (h : History) (t n : ℕ) (l : List (Option ℕ)) → length l ≡ n → ((i : ℕ) → i < n → get_or l i None ≡ find_flying (i + t) h) → l ≡ marks_from t n h
unfolding marks_from
marks_are h t zero [] e m = refl
marks_are h t zero (x ∷ l) e m = absurd (omega (arith, e))
marks_are h t (suc n) [] e m = absurd (omega (arith, e))
marks_are h t (suc n) (x ∷ l) e m =
    let z : 0 + t ≡ t = omega arith in
    let k : length l ≡ n = omega (arith, e) in
    let first : x ≡ find_flying t h = m 0 (omega arith) ∙ ap (λ (u : ℕ). find_flying u h) z in
    let rest : l ≡ marks_from (suc t) n h = marks_are h (suc t) n l k (λ i p. m (suc i) (omega (arith, p)) ∙ ap (λ (u : ℕ). find_flying u h)
    (let s : suc i + t ≡ i + suc t = omega arith in s)) in
    rw (first, rest) refl

-- What the pass hands back is what is known of a history.
pub looks : (shaped : Bool) (h : History) (r : Option (List (Option ℕ))) → r ≡ look_of shaped h → Known shaped h (is_some r) (marks_in r)
unfolding look_of
looks true h r e = record {
  ok_is = ap is_some e;
  places = λ s t l.
      let z : t + 0 ≡ t = omega arith in
      ap (λ (r : Option (List (Option ℕ))). get_or (marks_in r) t None) e ∙ mark_at h 0 threads t l ∙ ap (λ (u : ℕ). find_flying u h) z;
}
looks false h r e = record { ok_is = ap is_some e; places = λ s. never s }

-- A mark as a number, 0 for none and else one more than the place, tells the mark, both ways.

abbrev pub mark_of : Option ℕ → ℕ
mark_of (Some i) = i + 1
mark_of None = 0

unfoldable pub place_of : ℕ → Option ℕ
place_of mark = pick (eqb mark 0) None (Some (mark - 1))

pub mark_back : (m : ℕ) → mark_of (place_of m) ≡ m
unfolding place_of
mark_back m = go (eqb m 0) refl
  where
    go : (b : Bool) → eqb m 0 ≡ b → mark_of (pick b None (Some (m - 1))) ≡ m
    go true e = sym (eqb-true m 0 e)
    go false e = omega (arith, eqb-false m 0 e)

pub place_back : (q : Option ℕ) → place_of (mark_of q) ≡ q
unfolding place_of
place_back (Some i) =
    let n : i + 1 - 1 ≡ i = omega arith in
    rw (ne_eqb (i + 1) 0 (λ e. omega arith), n) refl
place_back None = refl

-- So told, the marks that the pass hands back say where each thread has its operation in flight.
pub marks_told : (h : History) (t n i : ℕ) → i < n → place_of (get_or (map mark_of (marks_from t n h)) i 0) ≡ find_flying (i + t) h
marks_told h t n i l =
    ap place_of (get_or-map mark_of (marks_from t n h) i None) ∙ place_back (get_or (marks_from t n h) i None) ∙ mark_at h t n i l
