-- Finite search trees: the ways through a tree to an end, the walk that answers with the first of them, and the attempts that the walk makes.
use Rattle.std.specs.Prelude.{ℕ, suc, ◌+◌, ◌≡◌, refl, ◌↔◌, List, [], ◌∷◌}
use Rattle.std.proofs.Common.{subst}
use Rattle.std.proofs.Math.Option.{Option, none, some}

-- What is left to try at a point of a search. done: nothing, since this is an end. stuck: nothing, and this is no end.
-- turned r: an attempt that is turned away, then r. placed e s r: an attempt that leads along e to the point s, then r if no end lies behind s.
pub data Tree (E : Type 0) : Type 0 where
  done stuck : Tree E
  turned : Tree E → Tree E
  placed : E → Tree E → Tree E → Tree E

module _ {E : Type 0} where
  -- a way to an end, by the edges that it goes along
  pub data Way : Tree E → List E → Type 0 where
    end : Way done []
    into : {e : E} {s r : Tree E} {p : List E} → Way s p → Way (placed e s r) (e ∷ p)
    past : {e : E} {s r : Tree E} {p : List E} → Way r p → Way (placed e s r) p
    over : {r : Tree E} {p : List E} → Way r p → Way (turned r) p

  -- the way that a gives behind the edge e, or else b
  abbrev pub along : E → Option (List E) → Option (List E) → Option (List E)
  along e (some p) b = some (e ∷ p)
  along e none b = b

  -- n attempts more, unless a way was found before them
  abbrev pub unless : Option (List E) → ℕ → ℕ
  unless (some p) n = 0
  unless none n = n

  -- the first way to an end
  abbrev pub answer : Tree E → Option (List E)
  answer done = some []
  answer stuck = none
  answer (turned r) = answer r
  answer (placed e s r) = along e (answer s) (answer r)

  -- the attempts made until the answer is known, placed or turned away
  abbrev pub count : Tree E → ℕ
  count done = 0
  count stuck = 0
  count (turned r) = suc (count r)
  count (placed e s r) = suc (count s + unless (answer s) (count r))

  -- what an answer says of a tree: it is a way, or there is none
  abbrev pub Says : Tree E → Option (List E) → Type 0
  Says s (some p) = Way s p
  Says s none = (p : List E) → Way s p → ⊥

  pub no_way_stuck : {p : List E} → Way stuck p → ⊥
  no_way_stuck = elim [ ]

  no_way_turned : {r : Tree E} {p : List E} → Says r none → Way (turned r) p → ⊥
  no_way_turned g (over w) = g _ w

  no_way_placed : {e : E} {s r : Tree E} {p : List E} → Says s none → Says r none → Way (placed e s r) p → ⊥
  no_way_placed f g (into w) = f _ w
  no_way_placed f g (past w) = g _ w

  says_turned : (r : Tree E) (b : Option (List E)) → Says r b → Says (turned r) b
  says_turned r (some q) g = over g
  says_turned r none g = λ p w. no_way_turned g w

  says_placed : (e : E) (s r : Tree E) (a b : Option (List E)) → Says s a → Says r b → Says (placed e s r) (along e a b)
  says_placed e s r (some p) b f g = into f
  says_placed e s r none (some q) f g = past g
  says_placed e s r none none f g = λ p w. no_way_placed f g w

  -- what the walk answers is so
  pub walk_right : (s : Tree E) → Says s (answer s)
  walk_right done = end
  walk_right stuck = λ p w. no_way_stuck w
  walk_right (turned r) = says_turned r (answer r) (walk_right r)
  walk_right (placed e s r) = says_placed e s r (answer s) (answer r) (walk_right s) (walk_right r)

  -- the walk answers with a way exactly if there is one
  pub answer_exists : (s : Tree E) → ((p : List E) × (answer s ≡ some p)) ↔ ((p : List E) × Way s p)
  answer_exists s = (λ f. (f.0, subst (Says s) f.1 (walk_right s)), go (answer s) (walk_right s))
    where
      go : (a : Option (List E)) → Says s a → ((p : List E) × Way s p) → (p : List E) × (a ≡ some p)
      go (some p) h w = (p, refl)
      go none h w = absurd (h w.0 w.1)
