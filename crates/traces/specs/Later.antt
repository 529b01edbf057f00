-- An invalid tester takes nothing more: whatever comes draws 1, and leaves it as it came.
use Rattle.std.specs.Prelude.{ℕ, ◌≡◌, refl, true, false, length, replicate, Result, Err, is_ok}
use Rattle.std.proofs.Math.Path.{ap}
use Rattle.std.proofs.Common.{◌∙◌}
use mathlib.Core.List.{List, [], ◌∷◌, map}
use Rattle.values.specs.Value.{pick}
use Rattle.stepping.specs.declared.recorded.Reason.TheVariants.{AlreadyInvalid}
use Rattle.stepping.specs.EventSteps.{reason_number, number_of, breaks}
use Rattle.recording_meaning.specs.Models.{Model}
use Rattle.recording_meaning.specs.Inputs.{Input, invoke, return, invret, Inputs, give, feed, drawn}
use Rattle.recording_meaning.specs.Meaning.{Means}
use Rattle.stepping.specs.declared.recorded.Reason.{Reason}

module _ (M : Model) (W : Means M) (s : M.Tester) (sized : M.Lengths s) (shaped : M.shaped s ≡ true) (off : (M.history s).valid ≡ false) where
  ignored : (v : Input) → ((give M s v).0 ≡ Err AlreadyInvalid) × ((give M s v).1 ≡ s)
  unfolding breaks
  ignored (invoke t op) =
      let e = (W.invoke_number s t op (Err AlreadyInvalid)).1 (shaped, off) in
      (e, (W.invoke_rows s sized shaped t op).refused (rw e) (rw e))
  ignored (return t ret) =
      let e = (W.return_number s t ret (Err AlreadyInvalid)).1 (shaped, off) in
      (e, (W.return_rows s sized shaped t ret).refused (rw e) (rw e))
  ignored (invret t op ret) =
      let e = (W.invoke_number s t op (Err AlreadyInvalid)).1 (shaped, off) in
      let stood : M.on_invret s t op ret ≡ M.on_invoke s t op
      = W.invret_is s t op ret ∙ ap (λ (r : Result Unit Reason). pick (is_ok r) (M.on_return (M.on_invoke s t op).1 t ret) (M.on_invoke s t op)) e in
      rw stood (e, (W.invoke_rows s sized shaped t op).refused (rw e) (rw e))

  pub all_ignored : (l : Inputs) → (map number_of (drawn M s l) ≡ replicate (length l) 1) × (feed M s l ≡ s)
  unfolding number_of reason_number
  all_ignored [] = (refl, refl)
  all_ignored (v ∷ l) = let g = ignored v in rw (g.0, g.1) (let e = all_ignored l in (ap (λ (ns : List ℕ). 1 ∷ ns) e.0, e.1))
