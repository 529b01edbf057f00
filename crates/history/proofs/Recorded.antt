-- Of rows fed from fresh: how many operations of a thread were invoked, and how many are completed.
use Rattle.std.specs.Prelude.{ℕ, suc, ◌≡◌, refl, cond, List, [], ◌∷◌, length}
use Rattle.std.proofs.Common.{sym, ap, ◌∙◌, eq-eqb, arith}
use Rattle.std.proofs.Math.Option.{Option, none, some}
use Rattle.history.specs.Object.{Object}
use Rattle.history.specs.Events.{Events, invocations, returns}
use Rattle.history.specs.Rows.{Entry, Rows, row}
use Rattle.history.specs.Recorder.{pending, completed}
use Rattle.history.proofs.Splits.{counts_sub}
use Rattle.history.specs.Recorded.{response_of, spell, Held}

module _ (O : Object) where
  -- the events of a row

  response_counts : (t : ℕ) (a : Option O.Ret) (H : Events O)
      → (invocations O t (response_of O t a H) ≡ invocations O t H) × (returns O t (response_of O t a H) ≡ cond (pending O a) (returns O t H) (suc (returns O t H)))
  response_counts t none H = (refl, refl)
  response_counts t (some q) H = (omega arith, rw (eq-eqb t t refl) (omega arith))

  spell_counts : (t : ℕ) (r : List (Entry O)) → (invocations O t (spell O t r) ≡ length r) × (returns O t (spell O t r) ≡ completed O r)
  spell_counts t [] = (refl, refl)
  spell_counts t (e ∷ r) =
      let a = response_counts t e.ret (spell O t r) in
      let h = spell_counts t r in
      (rw (eq-eqb t t refl, a.0, h.0) (omega arith), rw (a.1, h.1) (omega arith))

  pub held_many : {H : Events O} {rows : Rows O} → Held O H rows → (t : ℕ) → length (row O rows t) ≡ invocations O t H
  held_many {H} {rows} w t = sym (spell_counts t (row O rows t)).0 ∙ ap (invocations O t) (sym (w.spelt t)) ∙ (counts_sub O t H).0

  pub held_done : {H : Events O} {rows : Rows O} → Held O H rows → (t : ℕ) → completed O (row O rows t) ≡ returns O t H
  held_done {H} {rows} w t = sym (spell_counts t (row O rows t)).1 ∙ ap (returns O t) (sym (w.spelt t)) ∙ (counts_sub O t H).1
