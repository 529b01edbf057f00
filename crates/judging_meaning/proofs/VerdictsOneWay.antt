-- Verdicts only move one way: what a larger budget, further events and the weaker model leave of a verdict; and a budget that always decides.
use Rattle.std.specs.Prelude.{ℕ, ◌≤◌, ◌≡◌, refl, ◌≢◌, Bool, true, false, ◌++◌}
use Rattle.std.proofs.Common.{sym, ap, ◌∙◌, subst, inl, inr, arith}
use Rattle.theory.specs.Space.{powers}
use Rattle.theory.specs.Budget.{Judged, Verdict as Found}
use Rattle.theory.proofs.Verdicts.{judge_more}
use Rattle.history.specs.Lists.{not_both}
use Rattle.history.specs.Events.{Events}
use Rattle.history.specs.Rows.{Rows, forget, threads_used}
use Rattle.history.specs.Recorder.{Fed}
use Rattle.history.specs.Orders.{Order as Places, LegalOrder}
use Rattle.history.specs.Ways.{searched}
use Rattle.history.specs.Attempts.{attempts_bound}
use Rattle.history.proofs.Alike.{order_alike}
use Rattle.history.proofs.OneWay.{refused_stays}
use Rattle.values.specs.Sizes.{threads}
use Rattle.values.specs.Value.{pick}
use Rattle.families.specs.Families.{State, families}
use Rattle.families.specs.Same.{lawful}
use Rattle.semantics.specs.Invoking.{holds}
use Rattle.families.specs.declared.Object.{Object}
use Rattle.stepping.specs.declared.histories.History.{History}
use Rattle.stepping.specs.EventSteps.{begun_of}
use Rattle.recording_meaning.specs.Models.{Model, tester_rows, sequential_model, linearizability_model}
use Rattle.recording_meaning.specs.Lawful.{Lawful, sequential_lawful, linearizability_lawful}
use Rattle.recording_meaning.specs.EventTurns.{good_of}
use Rattle.recording_meaning.specs.Reaching.{good_new}
use Rattle.recording_meaning.specs.Inputs.{Inputs, broken, taken}
use Rattle.recording_meaning.proofs.TesterFeeding.{fed_rows, invalid_exactly, len_operations}
use Rattle.recording_meaning.proofs.TestersAlike.{testers_alike}
use Rattle.judging.specs.declared.answer.Answer.{Answer}
use Rattle.judging.specs.declared.answer.Verdict.TheVariants.{Order, NoOrder, Undecided, Invalid}
use Rattle.judging.specs.Answers.{Placement, without_order, told, told_of, judged_of, judge_of, judge_with}
use Rattle.judging_meaning.specs.Judging.{start_of, HasOrder, Sound}
use Rattle.judging_meaning.proofs.Judged.{judges, sequential_judges, linearizability_judges}
use Rattle.judging_meaning.proofs.JudgedFresh.{start_fed, fresh_sequential, fresh_linearizable}
use Rattle.judging_meaning.specs.FurtherInputs.{taken_further, broken_further}
use Rattle.judging_meaning.specs.VerdictsOneWay.{fed, verdict_fed, Refused, bound}

-- A fresh tester after the inputs l, whatever they are; and the verdict on it under the budget b.

-- A larger budget never changes an Order or a No order, nor an Invalid: verdict, order and attempts stay. For any tester of either model.
pub larger_budget : (M : Model) (s : M.Tester) (b c : ℕ) → b ≤ c → (judge_of M s b).verdict ≢ Undecided → judge_of M s c ≡ judge_of M s b
unfolding judge_with judged_of told_of without_order
larger_budget M s b c h = go (M.shaped s) (M.history s).valid
  where
    invalid : Answer
    invalid = without_order Invalid 0

    found : ℕ → Judged Placement
    found n = judged_of (M.needs s) (M.history s) n

    go : (e v : Bool) → (pick e (pick v (told_of (found b)) invalid) invalid).verdict ≢ Undecided
        → pick e (pick v (told_of (found c)) invalid) invalid ≡ pick e (pick v (told_of (found b)) invalid) invalid
    go false v n = refl
    go true false n = refl
    go true true n =
        ap told_of (judge_more b (searched families (tester_rows M s) (start_of M s)) c h
        (λ u. n (ap (λ (v : Found Placement). (told v (found b).attempts).verdict) u)))

-- inputs leave the object that the fresh tester starts from, the same in both models
starts : (M : Model) → Lawful M → (start : Object) (l : Inputs) → start_of M (fed M start l) ≡ holds (begun_of start).history.start
starts M L start l = ap holds (start_fed M L l (M.new start) (good_new M L start) ∙ ap (λ (h : History). h.start) (L.begins start).0)

-- where there is an order after further inputs, there was one before them
order_before : (start : Object) (l k : Inputs)
    → HasOrder linearizability_model (fed linearizability_model start (l ++ k)) → HasOrder linearizability_model (fed linearizability_model start l)
order_before start l k h =
    let M = linearizability_model in
    let L = linearizability_lawful in
    let later = tester_rows M (fed M start (l ++ k)) in
    refused_stays families lawful (taken M (fed M start l) k) (fed_rows M L start l)
    (subst (λ (H : Events families). Fed families M.keep threads H later) (taken_further M l k (M.new start)) (fed_rows M L start (l ++ k)))
    (start_of M (fed M start l))
    (subst (λ (s : State). (p : Places families) × LegalOrder families later s p) (starts M L start (l ++ k) ∙ sym (starts M L start l)) h)

-- A linearizability tester fed from fresh that is once refused, under any budget b, is never Order after any further inputs k, under any budget c.
pub refused_stays_refused : (start : Object) (l k : Inputs) (b c : ℕ)
    → Refused (verdict_fed linearizability_model start l b) → verdict_fed linearizability_model start (l ++ k) c ≢ Order
refused_stays_refused start l k b c r o =
    let w = ((linearizability_judges (fed linearizability_model start (l ++ k)) c).verdict_exactly Order).0 o in
    go w.0 w.2 r
  where
    go : Sound linearizability_model (fed linearizability_model start (l ++ k)) → HasOrder linearizability_model (fed linearizability_model start (l ++ k))
        → Refused (verdict_fed linearizability_model start l b) → ⊥
    go w h (inl e) = (((linearizability_judges (fed linearizability_model start l) b).verdict_exactly NoOrder).0 e).2 (order_before start l k h)
    go w h (inr e) =
        not_both w.1 ((invalid_exactly linearizability_model linearizability_lawful start (l ++ k)).1
        (broken_further linearizability_model l k (linearizability_model.new start) ((fresh_linearizable start l b).invalid_fed.0 e)))

-- where the linearizability tester has an order, the sequential one has it too
order_of_both : (start : Object) (l : Inputs)
    → HasOrder linearizability_model (fed linearizability_model start l) → HasOrder sequential_model (fed sequential_model start l)
order_of_both start l h =
    let s = fed sequential_model start l in
    let rows = tester_rows linearizability_model (fed linearizability_model start l) in
    subst (λ (r : Rows families). (p : Places families) × LegalOrder families r (start_of sequential_model s) p) (sym (testers_alike start l).forgets)
    (subst (λ (x : State). (p : Places families) × LegalOrder families (forget families rows) x p)
    (starts linearizability_model linearizability_lawful start l ∙ sym (starts sequential_model sequential_lawful start l))
    (order_alike families rows h))

-- Inputs judged Order for linearizability, under any budget b, are never No order for sequential consistency, nor Invalid, under any budget c.
pub linearizable_then_sequential : (start : Object) (l : Inputs) (b c : ℕ) → verdict_fed linearizability_model start l b ≡ Order
    → (verdict_fed sequential_model start l c ≢ NoOrder) × (verdict_fed sequential_model start l c ≢ Invalid)
linearizable_then_sequential start l b c o =
    let w = ((linearizability_judges (fed linearizability_model start l) b).verdict_exactly Order).0 o in (
      λ e. (((sequential_judges (fed sequential_model start l) c).verdict_exactly NoOrder).0 e).2 (order_of_both start l w.2),
      λ e. not_both w.0.1 ((invalid_exactly linearizability_model linearizability_lawful start l).1
          (ap broken (sym (testers_alike start l).same_numbers) ∙ (fresh_sequential start l c).invalid_fed.0 e)),
    )

module _ (M : Model) (L : Lawful M) (s : M.Tester) (z : M.Lengths s) where
  -- For k threads and n operations, k + k² + … + kⁿ attempts always suffice. For any tester of either model.
  pub bound_suffices : (b : ℕ) → bound M s ≤ b → (judge_of M s b).verdict ≢ Undecided
  bound_suffices b h u =
      let w = ((judges M L s b).verdict_exactly Undecided).0 u in
      let n = ap (powers (threads_used families (tester_rows M s))) (len_operations M L s (good_of M L s z w.0.0)) in
      omega (arith, h, n, w.1, attempts_bound families (tester_rows M s) (start_of M s))

  -- Without operations the sum is 0, so that every budget decides, 0 too.
  pub no_operations : M.len s ≡ 0 → (bound M s ≡ 0) × ((b : ℕ) → (judge_of M s b).verdict ≢ Undecided)
  no_operations e =
      let n : bound M s ≡ 0 = ap (powers (threads_used families (tester_rows M s))) e in
      (n, λ b. bound_suffices b (omega (arith, n)))
