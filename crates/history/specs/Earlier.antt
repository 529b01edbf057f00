-- Rows that ask no more than other rows: where those have a legal order, these have one.
use Rattle.std.specs.Prelude.{ℕ, ◌≡◌, ◌⊎◌, true, List, length, get_or}
use Rattle.std.proofs.Math.Option.{some}
use Rattle.history.specs.Object.{Object}
use Rattle.history.specs.Rows.{Entry, Rows, Is}
use Rattle.history.specs.Space.{met, all_placed}
use Rattle.history.specs.Feeding.{Sooner}

module _ (O : Object) where
  -- thread t's k-th operation was f, perhaps still in flight
  abbrev pub Was : Rows O → ℕ → ℕ → Entry O → Type 0
  Was rows t k f = (e : Entry O) × Is O rows t k e × Sooner O e f

  -- The rows ask no more than the later ones.
  pub record Earlier (rows later : Rows O) : Type 0 where
    pub threads : length rows ≡ length later
    -- what is completed stays as it is
    pub completed_then : (t k : ℕ) (e : Entry O) (q : O.Ret) → Is O rows t k e → e.ret ≡ some q → Is O later t k e
    -- what has all that it notes before it was there, perhaps in flight; or every completed operation is placed without it
    pub was_there : (ps : List ℕ) → length ps ≡ length rows → (t : ℕ) (f : Entry O) → Is O later t (get_or ps t 0) f → met f.needs ps ≡ true
        → Was rows t (get_or ps t 0) f ⊎ (all_placed O rows ps ≡ true)
