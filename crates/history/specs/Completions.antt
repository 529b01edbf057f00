-- A row, what a sequential history holds of its thread, and the responses that were added for it.
use Rattle.std.specs.Prelude.{ℕ, ◌≡◌, List, [], ◌∷◌}
use Rattle.std.proofs.Math.Option.{none, some}
use Rattle.history.specs.Object.{Object}
use Rattle.history.specs.Events.{Events, invoked, returned}
use Rattle.history.specs.Rows.{Entry}

module _ (O : Object) where
  -- the completed operations are there; one in flight is left out, or taken and answered
  pub data Fits (t : ℕ) : List (Entry O) → Events O → Events O → Type 0 where
    fits_nil : Fits t [] [] []
    fits_whole : {e : Entry O} {q : O.Ret} {r : List (Entry O)} {C R : Events O} → e.ret ≡ some q → Fits t r C R
        → Fits t (e ∷ r) (invoked t e.op ∷ returned t q ∷ C) R
    fits_left : {e : Entry O} → e.ret ≡ none → Fits t (e ∷ []) [] []
    fits_taken : {e : Entry O} {q : O.Ret} → e.ret ≡ none → Fits t (e ∷ []) (invoked t e.op ∷ returned t q ∷ []) (returned t q ∷ [])

  -- responses of one thread
  pub data Mine (t : ℕ) : Events O → Type 0 where
    mine_nil : Mine t []
    mine_cons : {r : O.Ret} {R : Events O} → Mine t R → Mine t (returned t r ∷ R)
