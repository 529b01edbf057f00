-- Inputs and events put together.
use Rattle.std.specs.Prelude.{◌+◌, ◌≡◌, refl, cond, [], ◌∷◌, ◌++◌, is_ok}
use Rattle.std.proofs.Common.{ap, arith}
use Rattle.history.specs.Events.{Event, Events, invoked, returned}
use Rattle.families.specs.Families.{families}
use Rattle.recording_meaning.specs.Models.{Model}
use Rattle.recording_meaning.specs.Inputs.{Inputs, as_input, as_inputs, invocations_in, give, takes}

pub invocations_both : (H K : Events families) → invocations_in (H ++ K) ≡ invocations_in H + invocations_in K
invocations_both [] K = omega arith
invocations_both (invoked t op ∷ H) K = omega (arith, invocations_both H K)
invocations_both (returned t ret ∷ H) K = omega (arith, invocations_both H K)

pub as_both : (H K : Events families) → as_inputs (H ++ K) ≡ as_inputs H ++ as_inputs K
as_both [] K = refl
as_both (v ∷ H) K = ap (λ (l : Inputs). as_input v ∷ l) (as_both H K)

-- What is recorded of an event is the event, or nothing.
pub takes_event : (M : Model) (s : M.Tester) (v : Event families) → takes M s (as_input v) ≡ cond (is_ok (give M s (as_input v)).0) (v ∷ []) []
takes_event M s (invoked t op) = refl
takes_event M s (returned t ret) = refl
