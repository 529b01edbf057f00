-- What a judge's answer looks like: with an order, and without.
use Rattle.std.specs.Prelude.{ℕ, zero, suc, ◌-◌, ◌≤◌, ◌≡◌, ◌≢◌, ◌⊎◌, Bool, false, List, [], ◌∷◌, ◌++◌, drop, replicate}
use Rattle.std.proofs.Math.Path.{refl, ap}
use Rattle.std.proofs.Common.{inl, inr, le-add_right, length-append}
use Rattle.std.proofs.Math.Bool.{true}
use native.Mathlib.Omega.{arith}
use Rattle.std.proofs.Math.ListN.{length}
use Rattle.history.specs.Lists.{not_both}
use Rattle.theory.specs.Budget.{Verdict as Found, order, no_order, undecided, Judged}
use Rattle.theory.specs.Undoing.{shown_by}
use Rattle.values.specs.Sizes.{capacity}
use Rattle.values.specs.Value.{pick}
use Rattle.stepping.specs.declared.histories.History.{History}
use Rattle.recording_meaning.specs.Models.{Model}
use Rattle.judging.specs.declared.answer.Answer.{Answer}
use Rattle.judging.specs.declared.answer.Placed.{Placed}
use Rattle.judging.specs.declared.answer.Verdict.{Verdict}
use Rattle.judging.specs.declared.answer.Verdict.TheVariants.{Order, NoOrder, Undecided, Invalid}
use Rattle.judging.specs.Answers.{number_of, placed, nobody_there, Placement, with_order, without_order, told, told_of, judged_of, judge_of, judge_with}
use Rattle.host.specs.Call.{threads_of}

module _ (M : Model) (s : M.Tester) where
  -- An answer with what holds of the tester where it is given: in shape with a valid history, or not so.
  pub data Ordered : Answer → Type 0 where
    with : M.shaped s ≡ true → (M.history s).valid ≡ true → (n : ℕ) (l : List Placed) → Ordered (with_order n l)
    without : M.shaped s ≡ true → (M.history s).valid ≡ true → (v : Verdict) (n : ℕ) → v ≢ Invalid → Ordered (without_order v n)
    invalid : (M.shaped s ≡ false) ⊎ ((M.history s).valid ≡ false) → Ordered (without_order Invalid 0)

  -- Every answer of the judge is one of them.
  pub ordered : (b : ℕ) → Ordered (judge_of M s b)
  unfolding judge_with told_of number_of
  ordered b = judges (M.shaped s) (M.history s).valid refl refl (judged_of (M.needs s) (M.history s) b)
    where
      walks : M.shaped s ≡ true → (M.history s).valid ≡ true → (v : Found Placement) (n : ℕ) → Ordered (told v n)
      walks h k (order p) n = with h k n (shown_by placed p)
      walks h k no_order n = without h k NoOrder n (λ e. omega (arith, ap number_of e))
      walks h k undecided n = without h k Undecided n (λ e. omega (arith, ap number_of e))

      judges : (x y : Bool) → M.shaped s ≡ x → (M.history s).valid ≡ y → (j : Judged Placement)
          → Ordered (pick x (pick y (told_of j) (without_order Invalid 0)) (without_order Invalid 0))
      judges false y h k j = invalid (inl h)
      judges true false h k j = invalid (inr k)
      judges true true h k j = walks h k j.verdict j.attempts

  -- Invalid is said exactly where the tester is not sound.

  pub sound_verdict : {a : Answer} → Ordered a → M.shaped s ≡ true → (M.history s).valid ≡ true → a.verdict ≢ Invalid
  unfolding without_order number_of
  sound_verdict (with h k n l) p q e = omega (arith, ap number_of e)
  sound_verdict (without h k v n d) p q e = d e
  sound_verdict (invalid (inl h)) p q e = not_both p h
  sound_verdict (invalid (inr k)) p q e = not_both q k

  pub invalid_verdict : {a : Answer} → Ordered a → (M.history s).valid ≡ false → a.verdict ≡ Invalid
  unfolding without_order
  invalid_verdict (with h k n l) q = not_both k q
  invalid_verdict (without h k v n d) q = not_both k q
  invalid_verdict (invalid u) q = refl

  -- The length fits in the places.
  pub length_within : {a : Answer} → Ordered a → a.length ≤ length a.order
  unfolding without_order
  length_within (with h k n l) = rw (length-append l (replicate (capacity - length l) nobody_there)) (le-add_right _ _)
  length_within (without h k v n d) = omega arith
  length_within (invalid u) = omega arith

  -- It is 0 without Order.
  pub no_length : {a : Answer} → Ordered a → a.verdict ≢ Order → a.length ≡ 0
  unfolding without_order
  no_length (with h k n l) d = absurd (d refl)
  no_length (without h k v n e) d = refl
  no_length (invalid u) d = refl

-- The length fits in the places, whatever the tester.
pub judge_within : {T : Type 0} (shaped : T → Bool) (history : T → History) (needs : T → ℕ → List ℕ) (s : T) (b : ℕ)
    → (judge_with shaped history needs s b).length ≤ length (judge_with shaped history needs s b).order
unfolding judge_with told_of without_order
judge_within shaped history needs s b = go (shaped s) (history s).valid (judged_of (needs s) (history s) b)
  where
    walks : (v : Found Placement) (n : ℕ) → (told v n).length ≤ length (told v n).order
    walks (order p) n = rw (length-append (shown_by placed p) (replicate (capacity - length (shown_by placed p)) nobody_there)) (le-add_right _ _)
    walks no_order n = omega arith
    walks undecided n = omega arith

    go : (x y : Bool) (j : Judged Placement)
        → (pick x (pick y (told_of j) (without_order Invalid 0)) (without_order Invalid 0)).length
        ≤ length (pick x (pick y (told_of j) (without_order Invalid 0)) (without_order Invalid 0)).order
    go false y j = omega arith
    go true false j = omega arith
    go true true j = walks j.verdict j.attempts

nobody_threads : (k : ℕ) → threads_of (replicate k nobody_there) ≡ replicate k 255
unfolding threads_of
nobody_threads zero = refl
nobody_threads (suc k) = ap (λ (l : List ℕ). 255 ∷ l) (nobody_threads k)

behind : (l : List Placed) (k : ℕ) → drop (length l) (threads_of (l ++ replicate k nobody_there)) ≡ replicate k 255
unfolding threads_of
behind [] k = nobody_threads k
behind (p ∷ l) k = behind l k

-- The thread numbers behind the order are 255.
pub unused : (M : Model) (s : M.Tester) {a : Answer} → Ordered M s a → drop a.length (threads_of a.order) ≡ replicate (capacity - a.length) 255
unfolding without_order
unused M s (with h k n l) = behind l (capacity - length l)
unused M s (without h k v n d) = nobody_threads capacity
unused M s (invalid u) = nobody_threads capacity
