-- A proposed order as numbers: four words a place, a thread and the three words of its return.
use Rattle.std.specs.Prelude.{ℕ, List, [], ◌∷◌, ◌++◌}
use Rattle.history.specs.Orders.{Order}
use Rattle.families.specs.Families.{families}
use Rattle.families.specs.Codes.{ret_coded}
use Rattle.families.specs.declared.Ret.{Ret}

-- A place takes four words.
abbrev pub place_words : ℕ
place_words = 4

-- The three words of a return: its number in its family, how many values it carries, and the value as a corpus file writes it, 0 where there
-- is none.
unfoldable pub words_of : Ret → List ℕ
words_of r = (ret_coded r).number ∷ (ret_coded r).count ∷ (ret_coded r).word ∷ []

-- An order as words, first place first.
abbrev pub order_words : Order families → List ℕ
order_words [] = []
order_words (x ∷ p) = x.thread ∷ (words_of x.ret ++ order_words p)
