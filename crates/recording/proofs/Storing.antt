-- What an event that was looked at comes to: one that is taken has a thread and a place, where its change is stored.
use Rattle.std.proofs.Common.{ℕ, ◌<◌, ◌≡◌, sym, ◌∙◌, Bool, true, false, List, arith, Option, Some, None, Result, Err}
use Rattle.std.specs.Prelude.{get_or, is_ok}
use Rattle.values.specs.Sizes.{threads, capacity}
use Rattle.families.specs.declared.event.Event.{Event}
use Rattle.stepping.specs.declared.histories.History.{History}
use Rattle.stepping.specs.declared.recorded.Reason.{Reason}
use Rattle.stepping.specs.declared.recorded.Reason.TheVariants.{OutOfShape}
use Rattle.stepping.specs.declared.step.Change.{Change}
use Rattle.stepping.specs.Record.{operation_at}
use Rattle.stepping.specs.Shape.{kind_of, shaped_with}
use Rattle.stepping.specs.EventSteps.{valid_after, step}
use Rattle.stepping.specs.OneStep.{event_of, thread_of, comes_to, place_for, change_of, changed}
use Rattle.stepping.specs.StepChecks.{Known}
use Rattle.stepping.proofs.Admitting.{event_fits, event_taken, event_refused, event_out}
use Rattle.shape.specs.Pass.{look_of}
use Rattle.shape.specs.Marking.{looks}

pub out : (noted : Bool) (h : History) (v : Event) → None ≡ look_of (shaped_with noted h) h
    → step (Err OutOfShape) h ≡ event_of (shaped_with noted h) h v
out noted h v e = event_out (shaped_with noted h) h v (looks _ h None e).ok_is

module _ (noted : Bool) (h : History) (v : Event) {flying : List (Option ℕ)} (looked : Some flying ≡ look_of (shaped_with noted h) h)
    {r : Result Unit Reason} (came : r ≡ comes_to true h.valid (kind_of h) flying h.count v) {b : Bool} (told : b ≡ is_ok r) where
  known : Known (shaped_with noted h) h true flying
  known = looks _ h (Some flying) looked

  pub place_fits : {i : ℕ} → i ≡ place_for v flying h.count → b ≡ true → i < capacity
  place_fits e y = omega (arith, e, (event_fits noted h true flying known v r came (sym told ∙ y)).room)

  pub thread_fits : {t : ℕ} → t ≡ thread_of v → b ≡ true → t < threads
  thread_fits e y = omega (arith, e, (event_fits noted h true flying known v r came (sym told ∙ y)).known)

  pub stored : b ≡ true → {i t : ℕ} {c : Change} → i ≡ place_for v flying h.count → t ≡ thread_of v
      → c ≡ change_of v (operation_at h i) i h.count (get_or h.done t 0) → step r (changed h i t c) ≡ event_of (shaped_with noted h) h v
  stored y {i} {t} {c} p q z = event_taken noted h true flying known v r came (sym told ∙ y) i t c p q z

  pub kept : b ≡ false → {valid : Bool} → valid ≡ valid_after h.valid r
      → step r (record { start = h.start; ops = h.ops; count = h.count; done = h.done; valid = valid }) ≡ event_of (shaped_with noted h) h v
  kept y {valid} q = event_refused noted h true flying known v r came (sym told ∙ y) valid q
