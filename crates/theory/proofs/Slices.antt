-- A budget that is cut into slices: the machine is left after each and goes on with the next, and ends where one run ends.
use Rattle.std.specs.Prelude.{ℕ, zero, suc, ◌+◌, ◌≡◌, refl, List, [], ◌∷◌}
use Rattle.std.proofs.Common.{sym, ap, ◌∙◌, zero-add, suc-add}
use Rattle.theory.specs.Tree.{Tree}
use Rattle.theory.specs.Budget.{judge}
use Rattle.theory.specs.Store.{Store, none_stored}
use Rattle.theory.specs.Machine.{State, attempt, run, start, outcome}
use Rattle.theory.proofs.Running.{run_plain}
use Rattle.theory.specs.Slices.{sum, slices}

module _ {E M : Type 0} (Z : Store E M) where
  -- to run i attempts and then j is to run i + j
  pub run_run : (i j : ℕ) (x : State E M) → run Z (i + j) x ≡ run Z j (run Z i x)
  run_run zero j x = rw zero-add
  run_run (suc i) j x = rw suc-add (run_run i j (attempt Z x))

  pub slices_run : (bs : List ℕ) (x : State E M) → slices Z bs x ≡ run Z (sum bs) x
  slices_run [] x = refl
  slices_run (b ∷ bs) x = slices_run bs (run Z b x) ∙ sym (run_run b (sum bs) x)

-- any cutting of a budget into slices gives what one run with the whole budget gives
pub slices_judge : {E : Type 0} (bs : List ℕ) (s : Tree E)
    → outcome none_stored (slices none_stored bs (start none_stored s tt)) ≡ judge (sum bs) s
slices_judge bs s = ap (outcome none_stored) (slices_run none_stored bs (start none_stored s tt)) ∙ run_plain (sum bs) s
