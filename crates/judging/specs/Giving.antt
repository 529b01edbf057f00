-- What an operation gives, by the code and by the abstract object: it may be placed exactly where the abstract object gives it a return.
use Rattle.std.specs.Prelude.{ℕ, true, false, List, ℤ, Option, Some, None}
use Rattle.std.proofs.Math.Path.{◌≡◌, ap}
use Rattle.std.proofs.Common.{sym, arith}
use Rattle.std.proofs.Math.Option.{none, some}
use Rattle.history.specs.Space.{gives}
use Rattle.families.specs.Families.{families, State, answers, right}
use Rattle.families.specs.Placing.{answer_of, right_of, fits_of, given_of}
use Rattle.families.specs.declared.Op.{Op}
use Rattle.families.specs.declared.Ret.{Ret}
use Rattle.values.specs.declared.held.Held.{Held}
use Rattle.recording_meaning.specs.Reading.{return_in}

-- two words and the items answer as the state does, and the same returns are right
module _ (items : List ℤ) (h : Held) (op : Op) (s : State) (same : answer_of items h op ≡ answers s op)
    (also : (r : Ret) → right_of items h op r ≡ right s op r) where
  pub fits_gives : (o : Option Ret) → fits_of items h op o ≡ true → gives families s op (return_in o) ≡ some (given_of items h op o)
  unfolding fits_of given_of
  fits_gives None e = ap some (sym same)
  fits_gives (Some r) e = rw (sym (also r), e)

  pub misfit_gives : (o : Option Ret) → fits_of items h op o ≡ false → gives families s op (return_in o) ≡ none
  unfolding fits_of
  misfit_gives None e = absurd (let z : ◌≡◌ {A = ℕ} 0 1 = cc in omega arith)
  misfit_gives (Some r) e = rw (sym (also r), e)
