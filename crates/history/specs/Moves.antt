-- The moves of the space: what a placed one says, and that placing uses operations up.
use Rattle.std.specs.Prelude.{ℕ, zero, suc, ◌-◌, ◌<◌, ◌≡◌, refl, Bool, true, false, List, [], ◌∷◌, length}
use Rattle.std.proofs.Common.{◌∙◌, arith}
use Rattle.std.proofs.Math.Option.{Option, none, some}
use Rattle.std.proofs.Math.ListN.{get_elem? as nth}
use Rattle.theory.specs.Space.{idle, place, Falls, Stays}
use Rattle.history.specs.Object.{Object}
use Rattle.history.specs.Rows.{Entry, Rows}
use Rattle.history.specs.Lists.{not_some}
use Rattle.history.specs.Space.{Node, next, more, unplaced, met, gives, stepped, placing, trying, space, size, Plays}

module _ {A : Type 0} where
  nth_falls : (r : List A) (p : ℕ) (e : A) → nth r p ≡ some e → length r - p ≡ suc (length r - suc p)
  nth_falls [] p e h = not_some h
  nth_falls (x ∷ r) zero e h = omega arith
  nth_falls (x ∷ r) (suc p) e h = omega (arith, nth_falls r p e h)

  next_falls : (rows : List (List A)) (ps : List ℕ) (t : ℕ) (e : A) → next rows ps t ≡ some e → unplaced rows ps ≡ suc (unplaced rows (more ps t))
  next_falls [] ps t e h = not_some h
  next_falls (r ∷ rows) [] t e h = not_some h
  next_falls (r ∷ rows) (p ∷ ps) zero e h = omega (arith, nth_falls r p e h)
  next_falls (r ∷ rows) (p ∷ ps) (suc t) e h = omega (arith, next_falls rows ps t e h)

  nth_stays : (r : List A) (p : ℕ) → nth r p ≡ none → nth r (suc p) ≡ none
  nth_stays [] p h = refl
  nth_stays (x ∷ r) zero h = absurd (let z : ◌≡◌ {A = ℕ} 0 1 = cc in omega arith)
  nth_stays (x ∷ r) (suc p) h = nth_stays r p h

  next_stays : (rows : List (List A)) (ps : List ℕ) (t u : ℕ) → next rows ps u ≡ none → next rows (more ps t) u ≡ none
  next_stays [] ps t u h = refl
  next_stays (r ∷ rows) [] t u h = refl
  next_stays (r ∷ rows) (p ∷ ps) zero zero h = nth_stays r p h
  next_stays (r ∷ rows) (p ∷ ps) zero (suc u) h = h
  next_stays (r ∷ rows) (p ∷ ps) (suc t) zero h = h
  next_stays (r ∷ rows) (p ∷ ps) (suc t) (suc u) h = next_stays rows ps t u h

  pub next_below : (rows : List (List A)) (ps : List ℕ) (t : ℕ) (e : A) → next rows ps t ≡ some e → t < length rows
  next_below [] ps t e h = not_some h
  next_below (r ∷ rows) [] t e h = not_some h
  next_below (r ∷ rows) (p ∷ ps) zero e h = omega arith
  next_below (r ∷ rows) (p ∷ ps) (suc t) e h = omega (arith, next_below rows ps t e h)

module _ (O : Object) (rows : Rows O) where
  -- what a move that places says
  abbrev pub Placed : Node O → ℕ → O.Ret → Node O → Type 0
  Placed x t r y = (h : Plays O rows x t r) × (y ≡ stepped O x t h.entry)

  pub move_plays : (x y : Node O) (t : ℕ) (r : O.Ret) → trying O x t (next rows x.progress t) ≡ place r y → Placed x t r y
  move_plays x y t r h = of_next (next rows x.progress t) refl h
    where
      of_given : (e : Entry O) → next rows x.progress t ≡ some e → (b : Bool) → met e.needs x.progress ≡ b
          → (g : Option O.Ret) → gives O x.object e.op e.ret ≡ g → placing O x t e b g ≡ place r y → Placed x t r y
      of_given e n false m g k h = absurd (let z : ◌≡◌ {A = ℕ} 0 1 = cc in omega arith)
      of_given e n true m none k h = absurd (let z : ◌≡◌ {A = ℕ} 0 1 = cc in omega arith)
      of_given e n true m (some q) k h = (record { entry = e; is_next = n; is_met = m; is_given = cc }, cc)

      of_next : (v : Option (Entry O)) → next rows x.progress t ≡ v → trying O x t v ≡ place r y → Placed x t r y
      of_next none n h = absurd (let z : ◌≡◌ {A = ℕ} 0 1 = cc in omega arith)
      of_next (some e) n h = of_given e n (met e.needs x.progress) refl (gives O x.object e.op e.ret) refl h

  pub plays_move : {x : Node O} {t : ℕ} {r : O.Ret} (h : Plays O rows x t r) → trying O x t (next rows x.progress t) ≡ place r (stepped O x t h.entry)
  plays_move h = rw (h.is_next, h.is_met, h.is_given)

  -- an operation that is looked at is an attempt
  placing_tries : (x : Node O) (t : ℕ) (e : Entry O) (b : Bool) (g : Option O.Ret) → placing O x t e b g ≡ idle → ⊥
  placing_tries x t e false g h = let z : ◌≡◌ {A = ℕ} 0 1 = cc in omega arith
  placing_tries x t e true none h = let z : ◌≡◌ {A = ℕ} 0 1 = cc in omega arith
  placing_tries x t e true (some r) h = let z : ◌≡◌ {A = ℕ} 0 1 = cc in omega arith

  idle_none : (x : Node O) (t : ℕ) (v : Option (Entry O)) → trying O x t v ≡ idle → v ≡ none
  idle_none x t none h = refl
  idle_none x t (some e) h = absurd (placing_tries x t e (met e.needs x.progress) (gives O x.object e.op e.ret) h)

  -- each placement leaves one operation less
  pub falls : Falls (space O rows) (size O rows)
  falls x y t r h =
      let p = move_plays x y t r h in
      next_falls rows x.progress t p.0.entry p.0.is_next ∙ rw p.1

  -- a thread that has nothing left gets nothing new
  pub stays : Stays (space O rows)
  stays x y t r h u k =
      let p = move_plays x y t r h in
      let q : next rows x.progress u ≡ none = idle_none x u (next rows x.progress u) k in
      rw (p.1, next_stays rows x.progress t u q)
