-- Lists compared by the ranks of what they hold, place by place, and trees in which the attempts of each point have rising ranks.
use Rattle.std.specs.Prelude.{ℕ, suc, ◌≤◌, ◌<◌, ◌≡◌, ◌⊎◌, List, [], ◌∷◌}
use Rattle.std.proofs.Math.Option.{Option, none, some}
use Rattle.theory.specs.Tree.{Tree, done, stuck, turned, placed}

module _ {E : Type 0} (rank : E → ℕ) where
  -- the first list is at most the second, comparing ranks place by place
  pub data Lex : List E → List E → Type 0 where
    short : {q : List E} → Lex [] q
    less : {a b : E} {p q : List E} → rank a < rank b → Lex (a ∷ p) (b ∷ q)
    same : {a b : E} {p q : List E} → rank a ≡ rank b → Lex p q → Lex (a ∷ p) (b ∷ q)

  -- the attempts that are left at a point have rising ranks, none below b, and so have those at each point behind them
  abbrev pub Rises : ℕ → Tree E → Type 0
  Rises b done = ⊥
  Rises b stuck = Unit {0}
  Rises b (turned r) = Rises b r
  Rises b (placed e s r) = (b ≤ rank e) × ((s ≡ done) ⊎ Rises 0 s) × Rises (suc (rank e)) r

  -- a point at which nothing was tried yet: an end, or attempts with rising ranks
  abbrev pub Ranked : Tree E → Type 0
  Ranked s = (s ≡ done) ⊎ Rises 0 s

  -- an answer that is a way, and at most q
  abbrev pub Least : Option (List E) → List E → Type 0
  Least (some p) q = Lex p q
  Least none q = ⊥
