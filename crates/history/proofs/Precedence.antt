-- Two ways to say L2 are one: by what precedes in H on the operations of S, and by what precedes in complete(H'). (By what precedes between operations
-- that are completed in H is another: LiteralReading.)
use Rattle.std.specs.Prelude.{ℕ, ◌+◌, ◌≤◌, ◌<◌, ◌≡◌, refl, ◌↔◌, Bool, true, false, cond, ◌||◌, [], ◌∷◌, ◌++◌, eqb}
use Rattle.std.proofs.Common.{sym, ap, ◌∙◌, append_assoc, eqb-true, arith}
use Rattle.history.specs.Object.{Object}
use Rattle.history.specs.Events.{Events, invoked, returned, invocations, returns, Precedes}
use Rattle.history.specs.Papers.{responds, complete, Responses, none_left, response, Extension, Equivalent, In, KeepsTime}
use Rattle.history.specs.Lists.{not_both}
use Rattle.history.specs.Splits.{At}
use Rattle.history.proofs.Splits.{inv_append, counts_sub, at_find, split_in, precedes_at, at_precedes}

module _ (O : Object) where
  -- what complete keeps of A where K follows
  abbrev kept : Events O → Events O → Events O
  kept [] K = []
  kept (invoked t o ∷ A) K = cond (responds O t (A ++ K)) (invoked t o ∷ kept A K) (kept A K)
  kept (returned t r ∷ A) K = returned t r ∷ kept A K

  complete_append : (A K : Events O) → complete O (A ++ K) ≡ kept A K ++ complete O K
  complete_append [] K = refl
  complete_append (invoked t o ∷ A) K = go (responds O t (A ++ K)) (complete_append A K)
    where
      go : (b : Bool) → complete O (A ++ K) ≡ kept A K ++ complete O K
          → cond b (invoked t o ∷ complete O (A ++ K)) (complete O (A ++ K)) ≡ cond b (invoked t o ∷ kept A K) (kept A K) ++ complete O K
      go true h = ap (λ (l : Events O). invoked t o ∷ l) h
      go false h = h
  complete_append (returned t r ∷ A) K = ap (λ (l : Events O). returned t r ∷ l) (complete_append A K)

  kept_returns : (t : ℕ) (A K : Events O) → returns O t (kept A K) ≡ returns O t A
  kept_returns t [] K = refl
  kept_returns t (invoked u o ∷ A) K = go (responds O u (A ++ K)) (kept_returns t A K)
    where
      go : (b : Bool) → returns O t (kept A K) ≡ returns O t A → returns O t (cond b (invoked u o ∷ kept A K) (kept A K)) ≡ returns O t (invoked u o ∷ A)
      go true h = omega arith
      go false h = omega arith
  kept_returns t (returned u r ∷ A) K = let h = kept_returns t A K in omega arith

  responds_after : (t : ℕ) (A K : Events O) → responds O t K ≡ true → responds O t (A ++ K) ≡ true
  responds_after t [] K h = h
  responds_after t (invoked u o ∷ A) K h = responds_after t A K h
  responds_after t (returned u r ∷ A) K h = go (eqb u t) (responds_after t A K h)
    where
      go : (b : Bool) → responds O t (A ++ K) ≡ true → (b || responds O t (A ++ K)) ≡ true
      go true h = refl
      go false h = h

  kept_invocations : (u : ℕ) (A K : Events O) → responds O u K ≡ true → invocations O u (kept A K) ≡ invocations O u A
  kept_invocations u [] K h = refl
  kept_invocations u (returned t r ∷ A) K h = let i = kept_invocations u A K h in omega arith
  kept_invocations u (invoked t o ∷ A) K h = go (eqb t u) refl (responds O t (A ++ K)) refl (kept_invocations u A K h)
    where
      go : (b : Bool) → eqb t u ≡ b → (c : Bool) → responds O t (A ++ K) ≡ c → invocations O u (kept A K) ≡ invocations O u A
          → invocations O u (cond c (invoked t o ∷ kept A K) (kept A K)) ≡ cond b 1 0 + invocations O u A
      go b e true f i = rw (e, i)
      go true e false f i = let y : t ≡ u = eqb-true t u e in not_both (rw y (responds_after u A K h)) f
      go false e false f i = omega arith

  -- without a later response no invocation of a thread is kept
  unanswered : (u : ℕ) (B : Events O) → responds O u B ≡ false → invocations O u (complete O B) ≡ 0
  unanswered u [] h = refl
  unanswered u (returned t r ∷ B) h = let i = unanswered u B (go (eqb t u) h) in omega arith
    where
      go : (b : Bool) → (b || responds O u B) ≡ false → responds O u B ≡ false
      go true h = not_both refl h
      go false h = h
  unanswered u (invoked t o ∷ B) h = go (eqb t u) refl (responds O t B) refl (unanswered u B h)
    where
      go : (b : Bool) → eqb t u ≡ b → (c : Bool) → responds O t B ≡ c → invocations O u (complete O B) ≡ 0
          → invocations O u (cond c (invoked t o ∷ complete O B) (complete O B)) ≡ 0
      go true e true f i = let y : t ≡ u = eqb-true t u e in not_both (rw y at f) h
      go false e true f i = rw e (omega arith)
      go b e false f i = i

  fewer : (u : ℕ) (A : Events O) → invocations O u (complete O A) ≤ invocations O u A
  fewer u [] = omega arith
  fewer u (returned t r ∷ A) = let h = fewer u A in omega arith
  fewer u (invoked t o ∷ A) = go (responds O t A) (fewer u A)
    where
      go : (c : Bool) → invocations O u (complete O A) ≤ invocations O u A
          → invocations O u (cond c (invoked t o ∷ complete O A) (complete O A)) ≤ invocations O u (invoked t o ∷ A)
      go true h = omega arith
      go false h = omega arith

  kept_fewer : (u : ℕ) (A K : Events O) → invocations O u (kept A K) ≤ invocations O u A
  kept_fewer u [] K = omega arith
  kept_fewer u (returned t r ∷ A) K = let h = kept_fewer u A K in omega arith
  kept_fewer u (invoked t o ∷ A) K = go (responds O t (A ++ K)) (kept_fewer u A K)
    where
      go : (c : Bool) → invocations O u (kept A K) ≤ invocations O u A
          → invocations O u (cond c (invoked t o ∷ kept A K) (kept A K)) ≤ invocations O u (invoked t o ∷ A)
      go true h = omega arith
      go false h = omega arith

  -- an operation that complete keeps, at its place
  module _ {H : Events O} {u k : ℕ} (a : At O H u k) (inside : k < invocations O u (complete O H)) where
    abbrev rest : Events O
    rest = invoked u a.op ∷ a.B

    whole : complete O H ≡ kept a.A rest ++ complete O rest
    whole = ap (complete O) a.split ∙ complete_append a.A rest

    answered : responds O u a.B ≡ true
    answered = go (responds O u a.B) refl
      where
        go : (b : Bool) → responds O u a.B ≡ b → responds O u a.B ≡ true
        go true h = h
        go false h =
            let b : invocations O u (complete O H) ≡ invocations O u (kept a.A rest ++ complete O rest) = ap (invocations O u) whole in
            let c = inv_append O u (kept a.A rest) (complete O rest) in
            let d = unanswered u rest h in
            let e = kept_fewer u a.A rest in
            let f = a.number in
            absurd (omega arith)

    abbrev kept_at : At O (complete O H) u k
    kept_at = record {
      A = kept a.A rest;
      op = a.op;
      B = complete O a.B;
      split = whole ∙ ap (λ (l : Events O). kept a.A rest ++ l) one;
      number = kept_invocations u a.A rest answered ∙ a.number;
    }
      where
        one : complete O rest ≡ invoked u a.op ∷ complete O a.B
        one = rw answered

  precedes_complete : (H : Events O) (t j u k : ℕ) → In O u k (complete O H) → Precedes O H t j u k ↔ Precedes O (complete O H) t j u k
  precedes_complete H t j u k i =
      let a = at_find O H u k (let f = fewer u H in omega arith) in
      let r = kept_returns t a.A (invoked u a.op ∷ a.B) in (
        λ p. let h = at_precedes O a p in precedes_at O (kept_at a i) (omega arith),
        λ p. let h = at_precedes O (kept_at a i) p in precedes_at O a (omega arith),
      )

  -- responses added at the end put nothing before anything

  no_invocations : (u : ℕ) {R : Events O} → Responses O R → invocations O u R ≡ 0
  no_invocations u none_left = refl
  no_invocations u (response w) = let h = no_invocations u w in omega arith

  abbrev extended_at : {H H' : Events O} {u k : ℕ} → Extension O H H' → At O H u k → At O H' u k
  extended_at {u = u} x a = record {
    A = a.A;
    op = a.op;
    B = a.B ++ x.responses;
    split = x.appended ∙ ap (λ (l : Events O). l ++ x.responses) a.split ∙ append_assoc a.A (invoked u a.op ∷ a.B) x.responses;
    number = a.number;
  }

  precedes_extended : {H H' : Events O} → Extension O H H' → (t j u k : ℕ) → Precedes O H t j u k ↔ Precedes O H' t j u k
  precedes_extended {H} {H'} x t j u k = (
    λ p. precedes_at O (extended_at x (record { A = p.A; op = p.op; B = p.B; split = p.split; number = p.number })) p.returned_before,
    λ p. let a = at_find O H u k (known p) in precedes_at O a (at_precedes O (extended_at x a) p),
  )
    where
      known : Precedes O H' t j u k → k < invocations O u H
      known p =
          let a = split_in O H' p.A p.B u k p.op p.split p.number in
          let b : invocations O u H' ≡ invocations O u (H ++ x.responses) = ap (invocations O u) x.appended in
          let c = inv_append O u H x.responses in
          let d = no_invocations u x.only in
          omega arith

  -- <_H, on the operations of complete(H'), is <_complete(H')
  same_precedence : {H H' : Events O} → Extension O H H' → (t j u k : ℕ) → In O u k (complete O H') → Precedes O H t j u k ↔ Precedes O (complete O H') t j u k
  same_precedence {H} {H'} x t j u k i =
      let a = precedes_extended x t j u k in
      let b = precedes_complete H' t j u k i in
      (λ p. b.0 (a.0 p), λ p. a.1 (b.1 p))

  -- L2, of the operations of S in H, is that <_complete(H') is within <_S.
  pub keeps_time_of_complete : {H H' S : Events O} → Extension O H H' → Equivalent O (complete O H') S
      → KeepsTime O H S ↔ ((t j u k : ℕ) → Precedes O (complete O H') t j u k → Precedes O S t j u k)
  keeps_time_of_complete {H} {H'} {S} x q = (
    λ f t j u k p. let i = split_in O (complete O H') p.A p.B u k p.op p.split p.number in
        f t j u k ((same_precedence x t j u k i).1 p) (let a = same u in omega arith),
    λ f t j u k p i. f t j u k ((same_precedence x t j u k (let a = same u in omega arith)).0 p),
  )
    where
      same : (u : ℕ) → invocations O u (complete O H') ≡ invocations O u S
      same u = sym (counts_sub O u (complete O H')).0 ∙ ap (invocations O u) (q u) ∙ (counts_sub O u S).0
