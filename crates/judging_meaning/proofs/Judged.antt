-- Every answer of the judge is what Judging says, for both testers by one proof.
use Rattle.std.specs.Prelude.{ℕ, ◌-◌, ◌≤◌, ◌<◌, min, ◌≡◌, ◌↔◌, ◌≢◌, Bool, cond, List, [], ◌∷◌, map, drop, replicate}
use Rattle.std.proofs.Math.Path.{refl, ap}
use Rattle.std.proofs.Common.{sym, ◌∙◌, subst, inl, inr, leb-true, leb-false}
use Rattle.std.proofs.Math.Bool.{true, false}
use Rattle.std.proofs.Math.Option.{Option, none, some}
use Rattle.std.proofs.Math.ListN.{length, length-map}
use Rattle.std.proofs.Math.Seq.{take-append_seam, drop-append_seam}
use Rattle.std.proofs.Math.Dec.{leb}
use native.Mathlib.Omega.{arith}
use Rattle.theory.specs.Tree.{answer}
use Rattle.theory.specs.Budget.{whole, broken}
use Rattle.theory.specs.Undoing.{shown_by}
use Rattle.history.specs.Lists.{not_both}
use Rattle.history.specs.Rows.{Rows}
use Rattle.history.specs.Orders.{Order as Places, First}
use Rattle.history.specs.Ways.{Steps, searched, strip}
use Rattle.history.specs.Verdict.{Answers}
use Rattle.history.proofs.Verdict.{verdict}
use Rattle.values.specs.Sizes.{capacity}
use Rattle.values.specs.Value.{pick}
use Rattle.families.specs.Families.{families}
use Rattle.families.specs.Same.{lawful}
use Rattle.recording_meaning.specs.Models.{Model, tester_rows, sequential_model, linearizability_model}
use Rattle.recording_meaning.specs.Lawful.{Lawful, sequential_lawful, linearizability_lawful}
use Rattle.recording_meaning.specs.EventTurns.{good_of}
use Rattle.recording_meaning.specs.Shaping.{rows_count}
use Rattle.judging.specs.declared.answer.Answer.{Answer}
use Rattle.judging.specs.declared.answer.Placed.{Placed}
use Rattle.judging.specs.declared.answer.Verdict.{Verdict}
use Rattle.judging.specs.declared.answer.Verdict.TheVariants.{Order, NoOrder, Undecided, Invalid}
use Rattle.judging.specs.Answers.{is_consistent, placed, nobody_there, with_order, without_order, told_of, judged_of, judge_of, judge_with}
use Rattle.judging_meaning.specs.Judging.{item, order_in, start_of, needed, HasOrder, Sound, Unsound, VerdictWhen, Answered, Judges}
use Rattle.judging_meaning.specs.Within.{legal_within}

-- the order in an answer is the one that was put there

items_strip : (rows : Rows families) (p : Steps families rows) → map item (shown_by placed p) ≡ strip families rows p
items_strip rows [] = refl
items_strip rows (e ∷ p) = ap (λ (q : Places families). record { thread = e.thread; ret = e.label } ∷ q) (items_strip rows p)

order_put : (n : ℕ) (l : List Placed) → order_in (with_order n l) ≡ map item l
order_put n l = ap (map item) (take-append_seam l (replicate (capacity - length l) nobody_there))

pub order_told : (rows : Rows families) (n : ℕ) (p : Steps families rows) → order_in (with_order n (shown_by placed p)) ≡ strip families rows p
order_told rows n p = order_put n (shown_by placed p) ∙ items_strip rows p

is_order : (v : Verdict) → (is_consistent v ≡ true) ↔ (v ≡ Order)
unfolding is_consistent
is_order Order = (λ h. refl, λ h. refl)
is_order NoOrder = (λ h. not_both h refl, λ h. cc)
is_order Undecided = (λ h. not_both h refl, λ h. cc)
is_order Invalid = (λ h. not_both h refl, λ h. cc)

module _ (M : Model) (s : M.Tester) (b : ℕ) where
  -- The four answers, each with what holds where it is given.
  data Outcome : Answer → Type 0 where
    unsound : Unsound M s → Outcome (without_order Invalid 0)
    short : Sound M s → b < needed M s → Outcome (without_order Undecided b)
    without : Sound M s → needed M s ≤ b → (HasOrder M s → ⊥) → Outcome (without_order NoOrder (needed M s))
    first : (p : Steps families (tester_rows M s)) → Sound M s → needed M s ≤ b → First families (tester_rows M s) (start_of M s) (strip families (tester_rows M s) p)
        → Outcome (with_order (needed M s) (shown_by placed p))

  outcome : Outcome (judge_of M s b)
  unfolding judge_with judged_of told_of
  outcome = judges (M.shaped s) refl (M.history s).valid refl
    where
      walks : Sound M s → (c : Bool) → leb (needed M s) b ≡ c → (a : Option (Steps families (tester_rows M s))) → Answers families (tester_rows M s) (start_of M s) a
          → Outcome (told_of (cond c (whole a (needed M s)) (broken b)))
      walks h true e (some p) w = first p h (leb-true (needed M s) b e) w
      walks h true e none w = without h (leb-true (needed M s) b e) (λ o. w o.0 o.1)
      walks h false e a w = short h (leb-false (needed M s) b e)

      judges : (e : Bool) → M.shaped s ≡ e → (v : Bool) → (M.history s).valid ≡ v
          → Outcome (pick e (pick v (told_of (judged_of (M.needs s) (M.history s) b)) (without_order Invalid 0)) (without_order Invalid 0))
      judges false h v k = unsound (inl h)
      judges true h false k = unsound (inr k)
      judges true h true k =
          walks (h, k) (leb (needed M s) b) refl (answer (searched families (tester_rows M s) (start_of M s))) (verdict families lawful (tester_rows M s) (start_of M s))

  -- no tester is both
  not_sound : {B : Type 0} → Sound M s → Unsound M s → B
  not_sound h (inl e) = not_both h.0 e
  not_sound h (inr e) = not_both h.1 e

  -- no two verdicts are given under one condition
  one_verdict : (v w : Verdict) → VerdictWhen M s b v → VerdictWhen M s b w → v ≡ w
  one_verdict Order Order h k = refl
  one_verdict Order NoOrder h k = absurd (k.2 h.2)
  one_verdict Order Undecided h k = absurd (omega (arith, h.1, k.1))
  one_verdict Order Invalid h k = not_sound h.0 k
  one_verdict NoOrder Order h k = absurd (h.2 k.2)
  one_verdict NoOrder NoOrder h k = refl
  one_verdict NoOrder Undecided h k = absurd (omega (arith, h.1, k.1))
  one_verdict NoOrder Invalid h k = not_sound h.0 k
  one_verdict Undecided Order h k = absurd (omega (arith, h.1, k.1))
  one_verdict Undecided NoOrder h k = absurd (omega (arith, h.1, k.1))
  one_verdict Undecided Undecided h k = refl
  one_verdict Undecided Invalid h k = not_sound h.0 k
  one_verdict Invalid Order h k = not_sound k.0 h
  one_verdict Invalid NoOrder h k = not_sound k.0 h
  one_verdict Invalid Undecided h k = not_sound k.0 h
  one_verdict Invalid Invalid h k = refl

  -- what each of them is

  verdict_holds : {a : Answer} → Outcome a → VerdictWhen M s b a.verdict
  unfolding without_order
  verdict_holds (unsound u) = u
  verdict_holds (short h c) = (h, c)
  verdict_holds (without h c n) = (h, c, n)
  verdict_holds (first p h c w) = (h, c, (strip families (tester_rows M s) p, w.legal))

  verdict_exactly : {a : Answer} → Outcome a → (v : Verdict) → (a.verdict ≡ v) ↔ VerdictWhen M s b v
  verdict_exactly {a} o v = (λ e. subst (VerdictWhen M s b) e (verdict_holds o), λ h. one_verdict a.verdict v (verdict_holds o) h)

  order_first : {a : Answer} → Outcome a → VerdictWhen M s b Order → First families (tester_rows M s) (start_of M s) (order_in a)
  order_first (unsound u) w = not_sound w.0 u
  order_first (short h c) w = absurd (omega (arith, w.1))
  order_first (without h c n) w = absurd (n w.2)
  order_first (first p h c f) w = subst (First families (tester_rows M s) (start_of M s)) (sym (order_told (tester_rows M s) (needed M s) p)) f

  attempts_made : {a : Answer} → Outcome a → Sound M s → a.attempts ≡ min b (needed M s)
  unfolding without_order
  attempts_made (unsound u) h = not_sound h u
  attempts_made (short h c) k = omega arith
  attempts_made (without h c n) k = omega arith
  attempts_made (first p h c f) k = omega arith

  invalid_attempts : {a : Answer} → Outcome a → Unsound M s → a.attempts ≡ 0
  unfolding without_order
  invalid_attempts (unsound u) k = refl
  invalid_attempts (short h c) k = not_sound h k
  invalid_attempts (without h c n) k = not_sound h k
  invalid_attempts (first p h c f) k = not_sound h k

  within_budget : {a : Answer} → Outcome a → a.attempts ≤ b
  unfolding without_order
  within_budget (unsound u) = omega arith
  within_budget (short h c) = omega arith
  within_budget (without h c n) = c
  within_budget (first p h c f) = c

  length_is : {a : Answer} → Outcome a → length (order_in a) ≡ a.length
  unfolding without_order
  length_is (unsound u) = refl
  length_is (short h c) = refl
  length_is (without h c n) = refl
  length_is (first p h c f) = ap length (order_put (needed M s) (shown_by placed p)) ∙ length-map (shown_by placed p) item

  no_length : {a : Answer} → Outcome a → a.verdict ≢ Order → a.length ≡ 0
  unfolding without_order
  no_length (unsound u) n = refl
  no_length (short h c) n = refl
  no_length (without h c m) n = refl
  no_length (first p h c f) n = absurd (n refl)

  nobody_behind : {a : Answer} → Outcome a → drop a.length a.order ≡ replicate (capacity - a.length) nobody_there
  unfolding without_order
  nobody_behind (unsound u) = refl
  nobody_behind (short h c) = refl
  nobody_behind (without h c n) = refl
  nobody_behind (first p h c f) = drop-append_seam (shown_by placed p) (replicate (capacity - length (shown_by placed p)) nobody_there)

  length_fits : {a : Answer} → Lawful M → M.Lengths s → Outcome a → a.length ≤ capacity
  unfolding without_order
  length_fits L z (unsound u) = omega arith
  length_fits L z (short h c) = omega arith
  length_fits L z (without h c n) = omega arith
  length_fits L z (first p h c f) =
      let g = good_of M L s z h.0 in
      omega (
        arith,
        ap length (items_strip (tester_rows M s) p),
        length-map (shown_by placed p) item,
        legal_within families (tester_rows M s) lawful (start_of M s) (strip families (tester_rows M s) p) f.legal,
        rows_count (M.needs s) (M.history s) g.parts g.sized,
        g.parts.few,
      )

  answered : {a : Answer} → Lawful M → Outcome a → Answered M s b a
  answered {a} L o =
      let v = verdict_exactly o in
      record {
        verdict_exactly = v;
        order_first = λ e. order_first o ((v Order).0 e);
        attempts_made = attempts_made o;
        invalid_attempts = λ e. invalid_attempts o ((v Invalid).0 e);
        undecided_attempts = λ e. let w = (v Undecided).0 e in omega (arith, attempts_made o w.0, w.1);
        within_budget = within_budget o;
        length_is = length_is o;
        length_fits = λ z. length_fits L z o;
        no_length = no_length o;
        nobody_behind = nobody_behind o;
        consistent_exactly = is_order a.verdict;
      }

pub judges : (M : Model) → Lawful M → Judges M
judges M L s b = answered M s b L (outcome M s b)

pub sequential_judges : Judges sequential_model
sequential_judges = judges sequential_model sequential_lawful

pub linearizability_judges : Judges linearizability_model
linearizability_judges = judges linearizability_model linearizability_lawful
