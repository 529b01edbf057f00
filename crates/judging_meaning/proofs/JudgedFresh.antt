-- A tester fed from fresh is judged by whether what was recorded is linearizable, or sequentially consistent.
use Rattle.std.specs.Prelude.{ℕ, ◌≡◌, refl, ◌↔◌, Bool, true, false, [], ◌∷◌}
use Rattle.std.proofs.Common.{◌∙◌, subst, inl, inr}
use Rattle.history.specs.Lists.{not_both}
use Rattle.history.specs.Events.{Events}
use Rattle.history.specs.Papers.{Linearizable, SequentiallyConsistent}
use Rattle.history.specs.Rows.{Rows}
use Rattle.history.specs.Recorder.{Fed}
use Rattle.history.specs.Orders.{Order as Places, LegalOrder}
use Rattle.history.proofs.Theorem.{linearizable, sequentially_consistent}
use Rattle.values.specs.Sizes.{threads}
use Rattle.families.specs.Families.{State, families}
use Rattle.families.specs.Same.{lawful}
use Rattle.semantics.specs.Invoking.{holds}
use Rattle.families.specs.declared.Object.{Object}
use Rattle.recording_meaning.specs.Models.{Model, tester_rows, sequential_model, linearizability_model}
use Rattle.recording_meaning.specs.Lawful.{Lawful, sequential_lawful, linearizability_lawful}
use Rattle.recording_meaning.specs.EventTurns.{Good, good_shaped}
use Rattle.recording_meaning.specs.Reaching.{good_new}
use Rattle.recording_meaning.specs.Inputs.{Inputs, broken, give, feed, drawn, taken}
use Rattle.recording_meaning.specs.Meaning.{Fresh}
use Rattle.recording_meaning.proofs.TesterFeeding.{step_of, good_give, good_feed, fed_rows, invalid_exactly}
use Rattle.judging.specs.declared.answer.Verdict.{Verdict}
use Rattle.judging.specs.declared.answer.Verdict.TheVariants.{Order, NoOrder, Undecided, Invalid}
use Rattle.judging.specs.Answers.{judge_of}
use Rattle.judging_meaning.specs.Judging.{start_of, HasOrder, Sound, Unsound, VerdictWhen, JudgesFed, JudgesFresh}
use Rattle.judging_meaning.proofs.Judged.{judges}

-- the initial object stays
pub start_fed : (M : Model) (L : Lawful M) (l : Inputs) (s : M.Tester) → Good M L s → (M.history (feed M s l)).start ≡ (M.history s).start
start_fed M L [] s g = refl
start_fed M L (v ∷ l) s g = start_fed M L l (give M s v).1 (good_give M L s g v) ∙ (step_of M L s g v).start

-- where a legal order of the rows exists exactly if the events that they were fed meet the model
module _ (M : Model) (L : Lawful M) (Meets : State → Events families → Type 0)
    (meets : (H : Events families) (rows : Rows families) → Fed families M.keep threads H rows → (s : State)
    → ((p : Places families) × LegalOrder families rows s p) ↔ Meets s H)
    (start : Object) (l : Inputs) where
  abbrev fresh : M.Tester
  fresh = M.new start

  abbrev fed : M.Tester
  fed = feed M fresh l

  in_shape : M.shaped fed ≡ true
  in_shape = good_shaped M L fed (good_feed M L l fresh (good_new M L start))

  sound : broken (drawn M fresh l) ≡ false → Sound M fed
  sound e = (in_shape, go (M.history fed).valid refl)
    where
      go : (v : Bool) → (M.history fed).valid ≡ v → v ≡ true
      go true h = refl
      go false h = not_both ((invalid_exactly M L start l).0 h) e

  unsound : Unsound M fed ↔ (broken (drawn M fresh l) ≡ true)
  unsound = (turned, λ e. inr ((invalid_exactly M L start l).1 e))
    where
      turned : Unsound M fed → broken (drawn M fresh l) ≡ true
      turned (inl e) = not_both in_shape e
      turned (inr e) = (invalid_exactly M L start l).0 e

  has_order : (o : Object) → Fresh M o fresh → HasOrder M fed ↔ Meets (holds o) (taken M fresh l)
  has_order o f =
      subst (λ (o : Object). HasOrder M fed ↔ Meets (holds o) (taken M fresh l)) (start_fed M L l fresh (good_new M L start) ∙ f.starts)
      (meets (taken M fresh l) (tester_rows M fed) (fed_rows M L start l) (start_of M fed))

  judges_fed : (b : ℕ) → JudgesFed M Meets start l b (judge_of M fed b)
  judges_fed b = record {
    invalid_fed = (λ e. unsound.0 ((exactly Invalid).0 e), λ e. (exactly Invalid).1 (unsound.1 e));
    order_fed = λ o f u. (
      λ e. let w = (exactly Order).0 e in (w.1, (has_order o f).0 w.2),
      λ w. (exactly Order).1 (sound u, w.0, (has_order o f).1 w.1),
    );
    no_order_fed = λ o f u. (
      λ e. let w = (exactly NoOrder).0 e in (w.1, λ m. w.2 ((has_order o f).1 m)),
      λ w. (exactly NoOrder).1 (sound u, w.0, λ p. w.1 ((has_order o f).0 p)),
    );
    undecided_fed = λ u. (λ e. ((exactly Undecided).0 e).1, λ h. (exactly Undecided).1 (sound u, h));
  }
    where
      exactly : (v : Verdict) → ((judge_of M fed b).verdict ≡ v) ↔ VerdictWhen M fed b v
      exactly = (judges M L fed b).verdict_exactly

pub fresh_sequential : JudgesFresh sequential_model (SequentiallyConsistent families)
fresh_sequential = judges_fed sequential_model sequential_lawful (SequentiallyConsistent families) (λ H rows. sequentially_consistent families lawful)

pub fresh_linearizable : JudgesFresh linearizability_model (Linearizable families)
fresh_linearizable = judges_fed linearizability_model linearizability_lawful (Linearizable families) (λ H rows. linearizable families lawful)
