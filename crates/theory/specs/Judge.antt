-- The tree that is searched in a space whose size falls with each step, and what a right answer is: the first way to an end.
use Rattle.std.specs.Prelude.{ℕ, List}
use Rattle.std.proofs.Math.Option.{Option, none, some}
use Rattle.theory.specs.Tree.{Tree}
use Rattle.theory.specs.Least.{Lex}
use Rattle.theory.specs.Space.{Space, Step, Leads, grow, Falls}
use Rattle.theory.specs.Rising.{by_thread}

module _ {L : Type 0} (S : Space L) (size : S.Node → ℕ) (falls : Falls S size) where
  -- the tree that a search from a situation walks
  abbrev pub tree : S.Node → Tree (Step S)
  tree x = grow S (size x) x

  -- the first way to an end, comparing thread numbers place by place; or there is no way
  abbrev pub Right : S.Node → Option (List (Step S)) → Type 0
  Right x (some p) = Leads S x p × ((q : List (Step S)) → Leads S x q → Lex (by_thread S) p q)
  Right x none = (p : List (Step S)) → Leads S x p → ⊥
