-- The answer for the way in which a search stopped.
use Rattle.std.proofs.Common.{ℕ, ◌-◌, ◌≡◌, refl, sym, ap, ◌∙◌, Bool, true, false, List, ◌++◌, length, take, replicate, length-take-le, arith}
use Rattle.theory.specs.Budget.{Judged}
use Rattle.history.specs.Lists.{not_both}
use Rattle.values.specs.Value.{pick}
use Rattle.values.specs.Sizes.{capacity}
use Rattle.stepping.specs.declared.histories.History.{History}
use Rattle.judging.specs.declared.answer.Answer.{Answer}
use Rattle.judging.specs.declared.answer.Placed.{Placed}
use Rattle.judging.specs.declared.answer.Verdict.{Verdict}
use Rattle.judging.specs.declared.answer.Verdict.TheVariants.{Order, NoOrder, Undecided, Invalid}
use Rattle.judging.specs.declared.search.Stopped.{Stopped}
use Rattle.judging.specs.Answers.{is_consistent, nobody_there, padded, with_order, without_order, Placement, told_of, judged_of, judge_with}
use Rattle.judging.specs.Playing.{origin, played}
use Rattle.judging.specs.SearchStops.{FoundBy, Stopping, Stops}
use Rattle.judging.specs.PlayingLaws.{played_length}

module _ (j : Judged Placement) (h : History) (path : List ℕ) where
  order_alone : (v : Verdict) → is_consistent v ≡ true → v ≡ Order
  unfolding is_consistent
  order_alone Order e = refl
  order_alone NoOrder e = not_both refl (sym e)
  order_alone Undecided e = not_both refl (sym e)
  order_alone Invalid e = not_both refl (sym e)

  pub stopped_order : (r : Stopped) → Stops j h path r → is_consistent r.verdict ≡ true → FoundBy j h path r.depth r.attempts
  unfolding Stops
  stopped_order r w e = rw (order_alone r.verdict e) at w

  told_without : (v : Verdict) (d n : ℕ) → Stopping j h path v d n → is_consistent v ≡ false → without_order v n ≡ told_of j
  unfolding is_consistent told_of
  told_without Order d n w e = not_both refl e
  told_without NoOrder d n w e = rw w
  told_without Undecided d n w e = rw w
  told_without Invalid d n w e = absurd w

  -- a search that found none
  pub stopped_without : (r : Stopped) → Stops j h path r → is_consistent r.verdict ≡ false → without_order r.verdict r.attempts ≡ told_of j
  unfolding Stops
  stopped_without r w e = told_without r.verdict r.depth r.attempts w e

  -- a search that found one; the places of the answer are as many as it can have
  pub stopped_with : (r : Stopped) → Stops j h path r → is_consistent r.verdict ≡ true → length path ≡ capacity → (places : List Placed)
      → length places ≡ capacity
      → places ≡ played h (origin h) (take r.depth path) ++ replicate (capacity - length (take r.depth path)) nobody_there
      → record { verdict = r.verdict; attempts = r.attempts; length = r.depth; order = places } ≡ told_of j
  unfolding told_of
  stopped_with r s c full places long e =
      let w = stopped_order r s c in
      let l : List Placed = played h (origin h) (take r.depth path) in
      let k : length l ≡ r.depth = played_length h (origin h) (take r.depth path) ∙ length-take-le r.depth path (omega (arith, full, w.within)) in
      let p : places ≡ padded l = e ∙ ap (λ (n : ℕ). l ++ replicate (capacity - n) nobody_there) (sym (played_length h (origin h) (take r.depth path))) in
      let answer : ◌≡◌ {A = Answer} (record { verdict = r.verdict; attempts = r.attempts; length = r.depth; order = places }) (with_order r.attempts l)
      = rw (order_alone r.verdict c, p, k) in
      answer ∙ sym (rw (w.is, w.shown))

-- a judge's answer by its two tests
pub judge_by : {T : Type 0} (in_shape : T → Bool) (history : T → History) (needs : T → ℕ → List ℕ) (s : T) (b : ℕ) (shaped valid : Bool)
    → in_shape s ≡ shaped → (history s).valid ≡ valid
    → pick shaped (pick valid (told_of (judged_of (needs s) (history s) b)) (without_order Invalid 0)) (without_order Invalid 0)
    ≡ judge_with in_shape history needs s b
unfolding judge_with
judge_by in_shape history needs s b shaped valid e f = rw (e, f)
