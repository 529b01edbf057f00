-- With a store that keeps nothing the walk of a tree is the plain walk.
use Rattle.std.specs.Prelude.{ℕ, ◌+◌, ◌≡◌, refl, List}
use Rattle.std.proofs.Common.{ap, ◌∙◌, add-zero}
use Rattle.std.proofs.Math.Option.{Option, none, some}
use Rattle.theory.specs.Tree.{Tree, done, stuck, turned, placed, answer, count, along, unless}
use Rattle.theory.specs.Store.{none_stored, Found, found, once_more, go_on, after, walk}

module _ {E : Type 0} where
  go_on_plain : (e : E) (a : Option (List E)) (r : Tree E) (n : ℕ) (m : Unit {0}) → walk none_stored r m ≡ found (answer r) (count r) m
      → go_on none_stored e a n m (walk none_stored r) ≡ found (along e a (answer r)) (n + unless a (count r)) m
  go_on_plain e (some p) r n m h = rw add-zero
  go_on_plain e none r n m h = rw h

  -- the walk that stores nothing is the plain walk
  pub walk_plain : (s : Tree E) (m : Unit {0}) → walk none_stored s m ≡ found (answer s) (count s) m
  walk_plain done m = refl
  walk_plain stuck m = refl
  walk_plain (turned r) m = ap once_more (walk_plain r m)
  walk_plain (placed e s r) m =
      ap once_more (ap (λ (x : Found E (Unit {0})). after none_stored e x (walk none_stored r)) (walk_plain s m)
      ∙ go_on_plain e (answer s) r (count s) m (walk_plain r m))
