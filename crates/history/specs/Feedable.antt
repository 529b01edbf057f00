-- The events that can be fed are exactly the well-formed ones.
use Rattle.std.specs.Prelude.{ℕ, ◌≡◌, refl, ◌↔◌, Bool, true, false, List, [], ◌∷◌, ◌++◌, length, replicate}
use Rattle.std.proofs.Common.{sym, ap, subst, length-set}
use Rattle.std.proofs.Math.Bool.{or-true}
use Rattle.std.proofs.Math.Option.{none}
use Rattle.std.proofs.lemmas.List.{length-replicate}
use Rattle.history.specs.Object.{Object}
use Rattle.history.specs.Events.{Events, invoked, returned, ThreadsBelow, sub, Alternates, WellFormed}
use Rattle.history.specs.Rows.{Entry, Rows, row, Shaped, empty, in_flight, completed_first}
use Rattle.history.specs.Recorder.{pending, flying, extend, close_row, close, new, Feeds, fed, invokes, gives_back, Fed}
use Rattle.history.specs.Lists.{get_d_same}
use Rattle.history.specs.Splits.{sub_mine, sub_not_mine, tail_alternates}
use Rattle.history.specs.Feeding.{each_row}
use Rattle.history.specs.Recorded.{Held, held_invoked, held_returned, held_fresh, fed_held, held_formed}

module _ (O : Object) where
  -- what a thread may do next, by whether it has an operation in flight
  abbrev Follows : ℕ → Bool → Events O → Type 0
  Follows t false K = Alternates O K
  Follows t true K = (o : O.Op) × Alternates O (invoked t o ∷ K)

  two_invoked : {t u : ℕ} {o p : O.Op} {K : Events O} → Alternates O (invoked t o ∷ invoked u p ∷ K) → ⊥
  two_invoked = elim [ ]

  first_returned : {t : ℕ} {q : O.Ret} {K : Events O} → Alternates O (returned t q ∷ K) → ⊥
  first_returned = elim [ ]

  follows_invoked : (t : ℕ) (b : Bool) (o : O.Op) (K : Events O) → Follows t b (invoked t o ∷ K) → (b ≡ false) × Alternates O (invoked t o ∷ K)
  follows_invoked t false o K a = (refl, a)
  follows_invoked t true o K a = absurd (two_invoked a.1)

  follows_returned : (t : ℕ) (b : Bool) (q : O.Ret) (K : Events O) → Follows t b (returned t q ∷ K) → (b ≡ true) × Alternates O K
  follows_returned t false q K a = absurd (first_returned a)
  follows_returned t true q K a = (refl, tail_alternates O a.1)

  flying_new : (r : List (Entry O)) (e : Entry O) → e.ret ≡ none → flying O (r ++ (e ∷ [])) ≡ true
  flying_new [] e n = rw n
  flying_new (g ∷ r) e n = rw (flying_new r e n) (or-true (pending O g.ret))

  flying_close : {r : List (Entry O)} (q : O.Ret) → Shaped O r → flying O (close_row O r q) ≡ false
  flying_close q empty = refl
  flying_close q (in_flight {e = e} n) = let p : pending O e.ret ≡ true = ap (pending O) n in rw p
  flying_close q (completed_first {e = e} n s) = let p : pending O e.ret ≡ false = ap (pending O) n in rw (p, p, flying_close q s)

  module _ (keep : Rows O → ℕ → List ℕ) where
    abbrev Ready : Rows O → Events O → Type 0
    Ready rows H = (t : ℕ) → Follows t (flying O (row O rows t)) (sub O t H)

    -- the events A are recorded; H is to come
    feed : (H A : Events O) (rows : Rows O) → Held O A rows → ThreadsBelow O (length rows) H → Ready rows H → (end : Rows O) × Feeds O keep rows H end
    feed [] A rows w b f = (rows, fed)
    feed (invoked t o ∷ H) A rows w b f =
        let a = follows_invoked t (flying O (row O rows t)) o (sub O t H)
        (subst (Follows t (flying O (row O rows t))) (sub_mine O t (invoked t o) H refl) (f t)) in
        let z = feed H (A ++ (invoked t o ∷ [])) (extend O rows t (new O keep rows t o)) (held_invoked O A rows t (new O keep rows t o) refl b.0 a.0 w)
        (subst (λ (n : ℕ). ThreadsBelow O n H) (sym (length-set rows t _)) b.1)
        (each_row O (λ u r. Follows u (flying O r) (sub O u H)) rows t _ b.0
        (subst (λ (c : Bool). Follows t c (sub O t H)) (sym (flying_new (row O rows t) (new O keep rows t o) refl)) (o, a.1))
        (λ u d. subst (Follows u (flying O (row O rows u))) (sub_not_mine O u (invoked t o) H d) (f u))) in
        (z.0, invokes b.0 a.0 z.1)
    feed (returned t q ∷ H) A rows w b f =
        let a = follows_returned t (flying O (row O rows t)) q (sub O t H)
        (subst (Follows t (flying O (row O rows t))) (sub_mine O t (returned t q) H refl) (f t)) in
        let z = feed H (A ++ (returned t q ∷ [])) (close O rows t q) (held_returned O A rows t q b.0 a.0 w)
        (subst (λ (n : ℕ). ThreadsBelow O n H) (sym (length-set rows t _)) b.1)
        (each_row O (λ u r. Follows u (flying O r) (sub O u H)) rows t _ b.0
        (subst (λ (c : Bool). Follows t c (sub O t H)) (sym (flying_close q (w.shaped t))) a.1)
        (λ u d. subst (Follows u (flying O (row O rows u))) (sub_not_mine O u (returned t q) H d) (f u))) in
        (z.0, gives_back b.0 a.0 z.1)

    -- Every well-formed list of events of k threads can be fed.
    pub fed_of : (k : ℕ) (H : Events O) → WellFormed O H → ThreadsBelow O k H → (rows : Rows O) × Fed O keep k H rows
    fed_of k H w b =
        let z = feed H [] (replicate k []) (held_fresh O k) (subst (λ (n : ℕ). ThreadsBelow O n H) (sym (length-replicate {A = List (Entry O)} k [])) b)
        (λ t. subst (λ (r : List (Entry O)). Follows t (flying O r) (sub O t H)) (sym (get_d_same {A = List (Entry O)} k t [])) (w t)) in
        (z.0, record { from_fresh = z.1 })

    feeds_below : {rows end : Rows O} {H : Events O} → Feeds O keep rows H end → ThreadsBelow O (length rows) H
    feeds_below fed = tt
    feeds_below (invokes {rows = rows} {t = t} {H = H} l f w) = (l, subst (λ (n : ℕ). ThreadsBelow O n H) (length-set rows t _) (feeds_below w))
    feeds_below (gives_back {rows = rows} {t = t} {H = H} l f w) = (l, subst (λ (n : ℕ). ThreadsBelow O n H) (length-set rows t _) (feeds_below w))

    -- What can be fed is exactly that.
    pub fed_exactly : (k : ℕ) (H : Events O) → ((rows : Rows O) × Fed O keep k H rows) ↔ (WellFormed O H × ThreadsBelow O k H)
    fed_exactly k H = (
      λ w. (
        held_formed O (fed_held O w.1),
        subst (λ (n : ℕ). ThreadsBelow O n H) (length-replicate {A = List (Entry O)} k []) (feeds_below w.1.from_fresh),
      ),
      λ w. fed_of k H w.0 w.1,
    )
