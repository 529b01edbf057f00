-- Inputs in two parts, l and then k: what is recorded of both is what is recorded of l, then of k from there; and a 4 or 5 that was drawn stays drawn.
use Rattle.std.specs.Prelude.{◌≡◌, refl, Bool, true, false, ◌||◌, [], ◌∷◌, ◌++◌}
use Rattle.std.proofs.Common.{sym, ap, ◌∙◌, append_assoc}
use Rattle.history.specs.Lists.{not_both}
use Rattle.history.specs.Events.{Events}
use Rattle.families.specs.Families.{families}
use Rattle.recording_meaning.specs.Models.{Model}
use Rattle.recording_meaning.specs.Inputs.{Inputs, broke, broken, give, feed, drawn, takes, taken}

module _ (M : Model) where
  pub taken_further : (l k : Inputs) (s : M.Tester) → taken M s (l ++ k) ≡ taken M s l ++ taken M (feed M s l) k
  taken_further [] k s = refl
  taken_further (v ∷ l) k s =
      let next = (give M s v).1 in
      ap (λ (H : Events families). takes M s v ++ H) (taken_further l k next)
      ∙ sym (append_assoc (takes M s v) (taken M next l) (taken M (feed M next l) k))

  pub broken_further : (l k : Inputs) (s : M.Tester) → broken (drawn M s l) ≡ true → broken (drawn M s (l ++ k)) ≡ true
  broken_further [] k s e = not_both e refl
  broken_further (v ∷ l) k s e = go (broke (give M s v).0) e (broken_further l k (give M s v).1)
    where
      go : {a b : Bool} (t : Bool) → t || a ≡ true → (a ≡ true → b ≡ true) → t || b ≡ true
      go true e f = refl
      go false e f = f e
