-- Fed the same inputs, the two testers draw the same numbers and record the same events, and the sequential tester's rows are the linearizability
-- tester's without their notes.
use Rattle.std.specs.Prelude.{ℕ, ◌≡◌, refl, Bool, true, false, [], ◌∷◌, is_ok}
use Rattle.std.proofs.Common.{sym, ap, ◌∙◌, subst, Result}
use Rattle.history.specs.Events.{Events}
use Rattle.history.specs.Recorder.{notes, rows_no_notes, Fed}
use Rattle.history.specs.Feeding.{fed_same}
use Rattle.history.specs.Forgetting.{fed_forget}
use Rattle.values.specs.Sizes.{threads}
use Rattle.values.specs.Value.{pick}
use Rattle.families.specs.Families.{families}
use Rattle.families.specs.declared.Object.{Object}
use Rattle.families.specs.declared.Op.{Op}
use Rattle.families.specs.declared.Ret.{Ret}
use Rattle.stepping.specs.declared.histories.History.{History}
use Rattle.stepping.specs.declared.step.Step.{Step}
use Rattle.stepping.specs.EventSteps.{invoke_of, return_of}
use Rattle.recording_meaning.specs.Models.{Model, tester_rows, sequential_model, linearizability_model}
use Rattle.recording_meaning.specs.Inputs.{Input, invoke, return, invret, Inputs, give, feed, drawn, takes, taken}
use Rattle.recording_meaning.specs.Lawful.{Lawful, sequential_lawful, linearizability_lawful}
use Rattle.recording_meaning.specs.EventTurns.{Good, good_shaped}
use Rattle.recording_meaning.specs.Reaching.{good_new, good_invoke}
use Rattle.recording_meaning.proofs.TesterFeeding.{good_give, fed_rows}
use Rattle.recording_meaning.specs.TestersAlike.{step_of, Alike}
use Rattle.stepping.specs.declared.recorded.Reason.{Reason}

module _ (M : Model) (L : Lawful M) where
  -- A call comes to what the step says.
  abbrev Comes : Result Unit Reason × M.Tester → Step → Type 0
  Comes a x = (a.0 ≡ x.recorded) × (M.history a.1 ≡ x.history)

  comes_invoke : (s : M.Tester) → Good M L s → (t : ℕ) (op : Op) → Comes (M.on_invoke s t op) (invoke_of true (M.history s) t op)
  comes_invoke s g t op =
      let e = L.invokes s t op ∙ ap (λ (b : Bool). ((invoke_of b (M.history s) t op).recorded, L.after_invoke s t (invoke_of b (M.history s) t op)))
      (good_shaped M L s g) in
      (ap (λ (a : Result Unit Reason × M.Tester). a.0) e, ap (λ (a : Result Unit Reason × M.Tester). M.history a.1) e ∙ L.invoke_history s t _)

  comes_return : (s : M.Tester) → Good M L s → (t : ℕ) (ret : Ret) → Comes (M.on_return s t ret) (return_of true (M.history s) t ret)
  comes_return s g t ret =
      let e = L.returns s t ret ∙ ap (λ (b : Bool). ((return_of b (M.history s) t ret).recorded, L.after_return s (return_of b (M.history s) t ret)))
      (good_shaped M L s g) in
      (ap (λ (a : Result Unit Reason × M.Tester). a.0) e, ap (λ (a : Result Unit Reason × M.Tester). M.history a.1) e ∙ L.return_history s _)

  pub given : (s : M.Tester) → Good M L s → (v : Input) → Comes (give M s v) (step_of (M.history s) v)
  given s g (invoke t op) = comes_invoke s g t op
  given s g (return t ret) = comes_return s g t ret
  given s g (invret t op ret) =
      subst (λ (a : Result Unit Reason × M.Tester). Comes a (step_of (M.history s) (invret t op ret))) (sym (L.invrets s t op ret))
      (subst (λ (r : Result Unit Reason). Comes (pick (is_ok (M.on_invoke s t op).0) second first) (pick (is_ok r) then begun)) (comes_invoke s g t op).0
      (go (is_ok (M.on_invoke s t op).0)))
    where
      first : Result Unit Reason × M.Tester
      first = M.on_invoke s t op

      second : Result Unit Reason × M.Tester
      second = M.on_return first.1 t ret

      begun : Step
      begun = invoke_of true (M.history s) t op

      then : Step
      then = return_of true begun.history t ret

      go : (b : Bool) → Comes (pick b second first) (pick b then begun)
      go true =
          subst (λ (h : History). Comes second (return_of true h t ret)) (comes_invoke s g t op).1
          (comes_return first.1 (good_invoke M L s g t op) t ret)
      go false = comes_invoke s g t op

module _ (M N : Model) (L : Lawful M) (K : Lawful N) where
  module _ (s : M.Tester) (u : N.Tester) (g : Good M L s) (k : Good N K u) (e : M.history s ≡ N.history u) where
    same_number : (v : Input) → (give M s v).0 ≡ (give N u v).0
    same_number v = (given M L s g v).0 ∙ ap (λ (h : History). (step_of h v).recorded) e ∙ sym (given N K u k v).0

    same_history : (v : Input) → M.history (give M s v).1 ≡ N.history (give N u v).1
    same_history v = (given M L s g v).1 ∙ ap (λ (h : History). (step_of h v).history) e ∙ sym (given N K u k v).1

    same_taken : (v : Input) → takes M s v ≡ takes N u v
    same_taken (invoke t op) = rw (same_number (invoke t op))
    same_taken (return t ret) = rw (same_number (return t ret))
    same_taken (invret t op ret) = rw (same_number (invoke t op), same_number (invret t op ret))

  alike : (l : Inputs) (s : M.Tester) (u : N.Tester) → Good M L s → Good N K u → M.history s ≡ N.history u
      → (drawn M s l ≡ drawn N u l) × (taken M s l ≡ taken N u l)
  alike [] s u g k e = (refl, refl)
  alike (v ∷ l) s u g k e =
      let w = alike l (give M s v).1 (give N u v).1 (good_give M L s g v) (good_give N K u k v) (same_history s u g k e v) in
      (rw (same_number s u g k e v, w.0), rw (same_taken s u g k e v, w.1))

pub testers_alike : (start : Object) (l : Inputs) → Alike start l
testers_alike start l =
    let S = sequential_model in
    let T = linearizability_model in
    let w = alike S T sequential_lawful linearizability_lawful l (S.new start) (T.new start) (good_new S sequential_lawful start)
    (good_new T linearizability_lawful start) ((sequential_lawful.begins start).0 ∙ sym (linearizability_lawful.begins start).0) in
    record {
      same_numbers = w.0;
      same_events = w.1;
      forgets = fed_same families (rows_no_notes families)
          (subst (λ (H : Events families). Fed families (rows_no_notes families) threads H (tester_rows S (feed S (S.new start) l))) w.1
          (fed_rows S sequential_lawful start l))
          (fed_forget families (notes families) (fed_rows T linearizability_lawful start l));
    }
