-- The first way is the least way, place by place, where the attempts of each point have rising ranks.
use Rattle.std.specs.Prelude.{ℕ, suc, ◌≤◌, refl, List, [], ◌∷◌}
use Rattle.std.proofs.Common.{inl, inr, arith}
use Rattle.std.proofs.Math.Option.{Option, none, some}
use Rattle.theory.specs.Tree.{Tree, Way, end, into, past, over, answer, along}
use Rattle.theory.specs.Least.{Lex, short, less, same, Rises, Ranked, Least}

module _ {E : Type 0} (rank : E → ℕ) where
  -- the first edge has at least the rank b
  abbrev Above : ℕ → List E → Type 0
  Above b [] = ⊥
  Above b (e ∷ q) = b ≤ rank e

  above_weaken : {a b : ℕ} (q : List E) → a ≤ b → Above b q → Above a q
  above_weaken [] h k = k
  above_weaken (e ∷ q) h k = omega arith

  way_above : {s : Tree E} {q : List E} (b : ℕ) → Rises rank b s → Way s q → Above b q
  way_above b h end = h
  way_above b h (into w) = h.0
  way_above b h (past {e = e} {p = p} w) =
      above_weaken p (let k : b ≤ rank e = h.0 in omega arith) (way_above (suc (rank e)) h.2 w)
  way_above b h (over w) = way_above b h w

  above_later : {e : E} {p : List E} (q : List E) → Above (suc (rank e)) q → Lex rank (e ∷ p) q
  above_later [] h = absurd h
  above_later (f ∷ q) h = less h

  least_into : (e : E) (a b : Option (List E)) (q : List E) → Least rank a q → Least rank (along e a b) (e ∷ q)
  least_into e (some p) b q h = same refl h
  least_into e none b q h = absurd h

  least_past : (e : E) (a b : Option (List E)) (q : List E) → Above (suc (rank e)) q → Least rank b q → Least rank (along e a b) q
  least_past e (some p) b q k h = above_later q k
  least_past e none b q k h = h

  least_rising : {s : Tree E} {q : List E} (b : ℕ) → Rises rank b s → Way s q → Least rank (answer s) q
  least_rising b h end = short
  least_rising b h (into {e = e} {s = s} {r = r} {p = p} w) =
      least_into e (answer s) (answer r) p (go h.1 (λ k. least_rising 0 k w))
    where
      go : Ranked rank s → (Rises rank 0 s → Least rank (answer s) p) → Least rank (answer s) p
      go (inl d) f = rw d short
      go (inr k) f = f k
  least_rising b h (past {e = e} {s = s} {r = r} {p = p} w) =
      least_past e (answer s) (answer r) p (way_above (suc (rank e)) h.2 w) (least_rising (suc (rank e)) h.2 w)
  least_rising b h (over w) = least_rising b h w

  -- where there is a way, the walk answers with one that is at most that
  pub walk_least : (s : Tree E) → Ranked rank s → {q : List E} → Way s q → Least rank (answer s) q
  walk_least s (inl d) w = rw d short
  walk_least s (inr h) w = least_rising 0 h w
