-- A row, what a sequential history holds of its thread, and the responses that were added for it.
use Rattle.std.specs.Prelude.{ℕ, ◌≡◌, refl, Bool, true, false, cond, ◌||◌, List, [], ◌∷◌, ◌++◌, eqb}
use Rattle.std.proofs.Common.{sym, ap, ◌∙◌, subst, eq-eqb, eqb-true}
use Rattle.history.specs.Object.{Object}
use Rattle.history.specs.Events.{Events, invoked, returned, sub, Alternates, nothing, waiting, call}
use Rattle.history.specs.Papers.{responds, complete, Responses, none_left, response}
use Rattle.history.specs.Rows.{Entry, Shaped, empty, in_flight, completed_first}
use Rattle.history.specs.Recorded.{spell}
use Rattle.history.specs.Splits.{tail_alternates}
use Rattle.history.specs.Completions.{Fits, fits_nil, fits_whole, fits_left, fits_taken, Mine, mine_nil, mine_cons}

module _ (O : Object) where
  responds_sub : (t : ℕ) (H : Events O) → responds O t (sub O t H) ≡ responds O t H
  responds_sub t [] = refl
  responds_sub t (invoked u o ∷ H) = go (eqb u t) (responds_sub t H)
    where
      go : (b : Bool) → responds O t (sub O t H) ≡ responds O t H → responds O t (cond b (invoked u o ∷ sub O t H) (sub O t H)) ≡ responds O t H
      go true h = h
      go false h = h
  responds_sub t (returned u r ∷ H) = go (eqb u t) refl (responds_sub t H)
    where
      go : (b : Bool) → eqb u t ≡ b → responds O t (sub O t H) ≡ responds O t H
          → responds O t (cond b (returned u r ∷ sub O t H) (sub O t H)) ≡ (b || responds O t H)
      go true e h = rw e
      go false e h = h

  -- a thread's part of complete(H) is its part of H, completed
  pub sub_complete : (t : ℕ) (H : Events O) → sub O t (complete O H) ≡ complete O (sub O t H)
  sub_complete t [] = refl
  sub_complete t (invoked u o ∷ H) = go (eqb u t) refl (responds O u H) refl (sub_complete t H)
    where
      mine : (c : Bool) → u ≡ t → responds O u H ≡ c → responds O u (sub O t H) ≡ c
      mine c y f = rw y (responds_sub t H ∙ ap (λ (v : ℕ). responds O v H) (sym y) ∙ f)

      go : (b : Bool) → eqb u t ≡ b → (c : Bool) → responds O u H ≡ c → sub O t (complete O H) ≡ complete O (sub O t H)
          → sub O t (cond c (invoked u o ∷ complete O H) (complete O H)) ≡ complete O (cond b (invoked u o ∷ sub O t H) (sub O t H))
      go true e true f h = rw (e, mine true (eqb-true u t e) f, h)
      go true e false f h = rw (mine false (eqb-true u t e) f, h)
      go false e true f h = rw (e, h)
      go false e false f h = h
  sub_complete t (returned u r ∷ H) = go (eqb u t) (sub_complete t H)
    where
      go : (b : Bool) → sub O t (complete O H) ≡ complete O (sub O t H)
          → cond b (returned u r ∷ sub O t (complete O H)) (sub O t (complete O H)) ≡ complete O (cond b (returned u r ∷ sub O t H) (sub O t H))
      go true h = ap (λ (l : Events O). returned u r ∷ l) h
      go false h = h

  pub fits_complete : {t : ℕ} {r : List (Entry O)} {C R : Events O} → Fits O t r C R → complete O (spell O t r ++ R) ≡ C
  fits_complete fits_nil = refl
  fits_complete {t} (fits_whole h w) = rw (h, eq-eqb t t refl, fits_complete w)
  fits_complete (fits_left h) = rw h
  fits_complete {t} (fits_taken h) = rw (h, eq-eqb t t refl)

  pub fits_alternates : {t : ℕ} {r : List (Entry O)} {C R : Events O} → Fits O t r C R → Alternates O (spell O t r ++ R)
  fits_alternates fits_nil = nothing
  fits_alternates (fits_whole h w) = rw h (call (fits_alternates w))
  fits_alternates (fits_left h) = rw h waiting
  fits_alternates (fits_taken h) = rw h (call nothing)

  pub mine_of : (t : ℕ) {R : Events O} → Responses O R → Mine O t (sub O t R)
  mine_of t none_left = mine_nil
  mine_of t (response {t = u} {r = r} {R = R} w) = go (eqb u t) refl (mine_of t w)
    where
      go : (b : Bool) → eqb u t ≡ b → Mine O t (sub O t R) → Mine O t (cond b (returned u r ∷ sub O t R) (sub O t R))
      go true e m = rw (eqb-true u t e) (mine_cons m)
      go false e m = m

  mine_bare : {t : ℕ} {R : Events O} → Mine O t R → Alternates O R → R ≡ []
  mine_bare mine_nil a = refl
  mine_bare {t = t} (mine_cons {r = r} {R = R} _) a = elim a [ ]

  -- a row fits what complete leaves of its events with responses added
  pub fits_of_lem : (t : ℕ) {r : List (Entry O)} (R : Events O) → Shaped O r → Mine O t R → Alternates O (spell O t r ++ R)
      → Fits O t r (complete O (spell O t r ++ R)) R
  fits_of_lem t R empty m a = let z = mine_bare m a in rw z fits_nil
  fits_of_lem t R (completed_first {e = e} {q = q} {r = r} h s) m a =
      let b : Alternates O (invoked t e.op ∷ returned t q ∷ (spell O t r ++ R)) = rw h at a in
      let c : complete O (spell O t (e ∷ r) ++ R) ≡ invoked t e.op ∷ returned t q ∷ complete O (spell O t r ++ R) = rw (h, eq-eqb t t refl) in
      subst (λ (C : Events O). Fits O t (e ∷ r) C R) (sym c) (fits_whole h (fits_of_lem t R s m (tail_alternates O b)))
  fits_of_lem t R (in_flight {e = e} n) m a = go R m (rw n at a)
    where
      go : (R : Events O) → Mine O t R → Alternates O (invoked t e.op ∷ R) → Fits O t (e ∷ []) (complete O (spell O t (e ∷ []) ++ R)) R
      go _ mine_nil b =
          let c : complete O (spell O t (e ∷ []) ++ []) ≡ [] = rw n in
          subst (λ (C : Events O). Fits O t (e ∷ []) C []) (sym c) (fits_left n)
      go _ (mine_cons {r = q} {R = R} m) b =
          let z : R ≡ [] = mine_bare m (tail_alternates O b) in
          let c : complete O (spell O t (e ∷ []) ++ (returned t q ∷ [])) ≡ invoked t e.op ∷ returned t q ∷ [] = rw (n, eq-eqb t t refl) in
          subst (λ (R : Events O). Fits O t (e ∷ []) (complete O (spell O t (e ∷ []) ++ (returned t q ∷ R))) (returned t q ∷ R)) (sym z)
          (subst (λ (C : Events O). Fits O t (e ∷ []) C (returned t q ∷ [])) (sym c) (fits_taken n))
