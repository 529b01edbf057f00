-- Every tester that constructors and calls make is in shape, so that none of them gets number 9.
use Rattle.std.specs.Prelude.{ℕ, ◌≡◌, refl, Bool, true, false, Result, Err, is_ok}
use Rattle.std.proofs.Common.{sym, ◌∙◌}
use Rattle.std.proofs.Math.Path.{subst}
use Rattle.values.specs.Value.{pick}
use Rattle.families.specs.declared.Object.{Object}
use Rattle.families.specs.declared.Op.{Op}
use Rattle.families.specs.declared.Ret.{Ret}
use Rattle.stepping.specs.declared.recorded.Reason.{Reason}
use Rattle.stepping.specs.declared.recorded.Reason.TheVariants.{InFlight, NothingInFlight, Full, OutOfShape}
use Rattle.stepping.specs.declared.step.Step.{Step}
use Rattle.stepping.specs.EventSteps.{refuse}
use Rattle.recording_meaning.specs.Reading.{Sized}
use Rattle.recording_meaning.specs.Parts.{Parts}
use Rattle.recording_meaning.specs.Keeping.{keeps_invalidated, keeps_extended, keeps_completed, sized_invalidated, sized_extended, sized_completed}
use Rattle.recording_meaning.specs.Beginning.{start_of, begun_is, begun_startable, fresh_sized, fresh_parts}
use Rattle.recording_meaning.specs.Cases.{
  Judged,
  out_of_shape,
  barred,
  passed,
  Invoked,
  busy,
  full,
  begun,
  Returning,
  idle,
  ended,
  invoke_goes,
  return_goes,
}
use Rattle.recording_meaning.specs.Numbers.{op_said, ret_said, Fine}
use Rattle.recording_meaning.specs.Models.{Model, Reached, made, invoked, returned, invretted}
use Rattle.recording_meaning.specs.Lawful.{Lawful}
use Rattle.recording_meaning.specs.EventTurns.{Good, good_shaped}

module _ (M : Model) where
  module _ (L : Lawful M) where
    pub good_new : (start : Object) → Good M L (M.new start)
    good_new start =
        let e = (L.begins start).0 ∙ begun_is start in
        let o = start_of start in
        record {
          sized = subst Sized (sym e) (fresh_sized o);
          parts = subst Parts (sym e) (fresh_parts o (begun_startable start));
          beside = (L.begins start).1;
        }

    module _ (s : M.Tester) (g : Good M L s) (t : ℕ) where
      pub good_invoke : (op : Op) → Good M L (M.on_invoke s t op).1
      good_invoke op =
          let w = invoke_goes (M.shaped s) (M.history s) t op in
          subst (λ (a : Result Unit Reason × M.Tester). Good M L a.1) (sym (L.invokes s t op)) (judge w.judge w.invoke)
        where
          same : (r : Reason) → Good M L (L.after_invoke s t (refuse r (M.history s)))
          same r = subst (Good M L) (sym (L.invoke_same s t (Err r) refl)) g

          run : {x : Step} → Fine M s t (op_said M s op) → Invoked (M.history s) t op x → Good M L (L.after_invoke s t x)
          run a (busy w) = record {
            sized = subst Sized (sym (L.invoke_history s t _)) (sized_invalidated (M.history s) g.sized);
            parts = subst Parts (sym (L.invoke_history s t _)) (keeps_invalidated (M.history s) g.parts);
            beside = L.invoke_beside s t (Err InFlight) refl g.beside;
          }
          run a (full f l) = same Full
          run a (begun f l) = record {
            sized = subst Sized (sym (L.invoke_history s t _)) (sized_extended (M.history s) t op g.sized);
            parts = subst Parts (sym (L.invoke_history s t _)) (keeps_extended (M.history s) g.parts g.sized t a.known op l a.own f);
            beside = L.extended_beside s t op g.sized g.beside a.known l;
          }

          judge : {y x : Step} → Judged (M.shaped s) (M.history s) t (op_said M s op) y x → Invoked (M.history s) t op y → Good M L (L.after_invoke s t x)
          judge (out_of_shape e) w = same OutOfShape
          judge (barred e z) w = same _
          judge (passed a) w = run a w

      pub good_return : (ret : Ret) → Good M L (M.on_return s t ret).1
      good_return ret =
          let w = return_goes (M.shaped s) (M.history s) t ret in
          subst (λ (a : Result Unit Reason × M.Tester). Good M L a.1) (sym (L.returns s t ret)) (judge w.judge w.return)
        where
          same : (r : Reason) → Good M L (L.after_return s (refuse r (M.history s)))
          same r = subst (Good M L) (sym (L.return_same s (Err r))) g

          run : {x : Step} → Fine M s t (ret_said M s ret) → Returning (M.history s) t ret x → Good M L (L.after_return s x)
          run a (idle f) = record {
            sized = subst Sized (sym (L.return_history s _)) (sized_invalidated (M.history s) g.sized);
            parts = subst Parts (sym (L.return_history s _)) (keeps_invalidated (M.history s) g.parts);
            beside = L.return_beside s (Err NothingInFlight) g.beside;
          }
          run a (ended {i = i} w) = record {
            sized = subst Sized (sym (L.return_history s _)) (sized_completed (M.history s) i t ret g.sized);
            parts = subst Parts (sym (L.return_history s _)) (keeps_completed (M.history s) g.parts g.sized t a.known ret a.own w);
            beside = L.completed_beside s i t ret g.sized g.beside a.known;
          }

          judge : {y x : Step} → Judged (M.shaped s) (M.history s) t (ret_said M s ret) y x → Returning (M.history s) t ret y → Good M L (L.after_return s x)
          judge (out_of_shape e) w = same OutOfShape
          judge (barred e z) w = same _
          judge (passed a) w = run a w

    pub good_invret : (s : M.Tester) → Good M L s → (t : ℕ) (op : Op) (ret : Ret) → Good M L (M.on_invret s t op ret).1
    good_invret s g t op ret =
        subst (λ (a : Result Unit Reason × M.Tester). Good M L a.1) (sym (L.invrets s t op ret)) (go (is_ok (M.on_invoke s t op).0) (good_invoke s g t op))
      where
        go : (b : Bool) → Good M L (M.on_invoke s t op).1 → Good M L (pick b (M.on_return (M.on_invoke s t op).1 t ret) (M.on_invoke s t op)).1
        go true h = good_return (M.on_invoke s t op).1 h t ret
        go false h = h

    pub reached_good : {s : M.Tester} → Reached M s → Good M L s
    reached_good (made start) = good_new start
    reached_good (invoked {s = s} t op w) = good_invoke s (reached_good w) t op
    reached_good (returned {s = s} t ret w) = good_return s (reached_good w) t ret
    reached_good (invretted {s = s} t op ret w) = good_invret s (reached_good w) t op ret

    -- Every tester that constructors and calls make is in shape.
    pub reached_shaped : {s : M.Tester} → Reached M s → M.shaped s ≡ true
    reached_shaped {s} w = good_shaped M L s (reached_good w)
