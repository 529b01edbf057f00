-- The words tell the return: no two returns of one object have the same words.
use Rattle.std.specs.Prelude.{ℕ, ◌≡◌, List, get_or, Ok}
use Rattle.std.proofs.Common.{sym, ap, ◌∙◌}
use Rattle.values.specs.Coded.{coded}
use Rattle.families.specs.Codes.{ret_coded}
use Rattle.families.specs.Refusals.{ret_belongs}
use Rattle.families.specs.Room.{own_ret}
use Rattle.families.specs.CodesTell.{numbers_tell}
use Rattle.families.specs.declared.Kind.{Kind}
use Rattle.families.specs.declared.Ret.{Ret}
use Rattle.values.specs.declared.coded.Coded.{Coded}
use Rattle.witness.specs.Words.{words_of}

-- the numbers that three words are
numbers_of : List ℕ → Coded
numbers_of ws = coded (get_or ws 0 0) (get_or ws 1 0) (get_or ws 2 0)

-- Two returns that an object can have, with the same words, are the same return.
pub words_tell : (k : Kind) (r q : Ret) → ret_belongs k r ≡ Ok tt → ret_belongs k q ≡ Ok tt → words_of r ≡ words_of q → r ≡ q
unfolding words_of numbers_of
words_tell k r q a b e =
    let n : ret_coded r ≡ ret_coded q = ap numbers_of e in
    numbers_tell r q ((own_ret k r).0 a ∙ sym ((own_ret k q).0 b)) n
