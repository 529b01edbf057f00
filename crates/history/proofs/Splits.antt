-- Events: counting them, and finding an invocation by its number.
use Rattle.std.specs.Prelude.{ℕ, zero, suc, ◌+◌, ◌<◌, ◌≡◌, refl, Bool, true, false, cond, [], ◌∷◌, ◌++◌, eqb}
use Rattle.std.proofs.Common.{sym, ap, ◌∙◌, eq-eqb, eqb-true, arith}
use Rattle.history.specs.Object.{Object}
use Rattle.history.specs.Events.{Event, Events, invoked, returned, thread_of}
use Rattle.history.specs.Events.{is_invocation, is_return, invocations, returns, sub, Precedes}
use Rattle.history.specs.Splits.{At}

module _ (O : Object) where
  -- counts over joined lists

  pub inv_append : (t : ℕ) (H K : Events O) → invocations O t (H ++ K) ≡ invocations O t H + invocations O t K
  inv_append t [] K = omega arith
  inv_append t (v ∷ H) K = let h = inv_append t H K in omega arith

  pub ret_append : (t : ℕ) (H K : Events O) → returns O t (H ++ K) ≡ returns O t H + returns O t K
  ret_append t [] K = omega arith
  ret_append t (v ∷ H) K = let h = ret_append t H K in omega arith

  -- a thread's events are its own

  -- what another thread does counts for nothing
  others : (t : ℕ) (v : Event O) → eqb (thread_of O v) t ≡ false → (is_invocation O t v ≡ 0) × (is_return O t v ≡ 0)
  others t (invoked u o) h = (rw h, refl)
  others t (returned u r) h = (refl, rw h)

  pub counts_sub : (t : ℕ) (H : Events O) → (invocations O t (sub O t H) ≡ invocations O t H) × (returns O t (sub O t H) ≡ returns O t H)
  counts_sub t [] = (refl, refl)
  counts_sub t (v ∷ H) = go (eqb (thread_of O v) t) refl (counts_sub t H)
    where
      go : (b : Bool) → eqb (thread_of O v) t ≡ b → (invocations O t (sub O t H) ≡ invocations O t H) × (returns O t (sub O t H) ≡ returns O t H)
          → (invocations O t (cond b (v ∷ sub O t H) (sub O t H)) ≡ invocations O t (v ∷ H))
          × (returns O t (cond b (v ∷ sub O t H) (sub O t H)) ≡ returns O t (v ∷ H))
      go true e h = (let a = h.0 in omega arith, let a = h.1 in omega arith)
      go false e h = let a = others t v e in (let b = h.0 in let c = a.0 in omega arith, let b = h.1 in let c = a.1 in omega arith)

  -- an invocation is at one place

  inv_here : (u : ℕ) (o : O.Op) (v : Event O) (A : Events O) → v ≡ invoked u o → invocations O u (v ∷ A) ≡ suc (invocations O u A)
  inv_here u o v A h = rw (h, eq-eqb u u refl) (omega arith)

  pub split_once : (u : ℕ) (o q : O.Op) (A B C D : Events O) → A ++ (invoked u o ∷ B) ≡ C ++ (invoked u q ∷ D) → invocations O u A ≡ invocations O u C → A ≡ C
  split_once u o q [] B [] D h k = refl
  split_once u o q [] B (v ∷ C) D h k = absurd (let b = inv_here u o v C (cc) in omega arith)
  split_once u o q (v ∷ A) B [] D h k = absurd (let b = inv_here u q v A (cc) in omega arith)
  split_once u o q (v ∷ A) B (w ∷ C) D h k =
      let a : v ≡ w = cc in
      let b : A ++ (invoked u o ∷ B) ≡ C ++ (invoked u q ∷ D) = cc in
      let e : is_invocation O u v ≡ is_invocation O u w = ap (is_invocation O u) a in
      let f = split_once u o q A B C D b (omega arith) in
      cc

  pub at_find : (H : Events O) (u k : ℕ) → k < invocations O u H → At O H u k
  at_find [] u k h = absurd (omega arith)
  at_find (v ∷ H) u k h = go v (at_find H u) k h
    where
      on : (v : Event O) (k n : ℕ) → n ≡ is_invocation O u v + k → At O H u k → At O (v ∷ H) u n
      on v k n h w = record { A = v ∷ w.A; op = w.op; B = w.B; split = ap (λ (l : Events O). v ∷ l) w.split; number = (let b = w.number in omega arith) }

      mine : (w : ℕ) (o : O.Op) → ((k : ℕ) → k < invocations O u H → At O H u k) → (b : Bool) → eqb w u ≡ b
          → (k : ℕ) → k < cond b 1 0 + invocations O u H → At O (invoked w o ∷ H) u k
      mine w o f true e zero h = record { A = []; op = o; B = H; split = rw (eqb-true w u e); number = refl }
      mine w o f true e (suc k) h = on (invoked w o) k (suc k) (rw e (omega arith)) (f k (omega arith))
      mine w o f false e k h = on (invoked w o) k k (rw e (omega arith)) (f k (omega arith))

      go : (v : Event O) → ((k : ℕ) → k < invocations O u H → At O H u k) → (k : ℕ) → k < invocations O u (v ∷ H) → At O (v ∷ H) u k
      go (returned w r) f k h = on (returned w r) k k (omega arith) (f k (omega arith))
      go (invoked w o) f k h = mine w o f (eqb w u) refl k h

  pub split_in : (H A B : Events O) (u k : ℕ) (o : O.Op) → H ≡ A ++ (invoked u o ∷ B) → invocations O u A ≡ k → k < invocations O u H
  split_in H A B u k o h n =
      let a = inv_append u A (invoked u o ∷ B) in
      let b = inv_here u o (invoked u o) B refl in
      let c : invocations O u H ≡ invocations O u (A ++ (invoked u o ∷ B)) = ap (invocations O u) h in
      omega arith

  -- what precedes an invocation is a matter of its place

  pub precedes_at : {H : Events O} {t j u k : ℕ} (a : At O H u k) → j < returns O t a.A → Precedes O H t j u k
  precedes_at a h = record { A = a.A; op = a.op; B = a.B; split = a.split; number = a.number; returned_before = omega arith }

  pub at_precedes : {H : Events O} {t j u k : ℕ} (a : At O H u k) → Precedes O H t j u k → j < returns O t a.A
  at_precedes {t = t} {u = u} a p =
      let y : p.A ≡ a.A = split_once u p.op a.op p.A p.B a.A a.B (sym p.split ∙ a.split) (p.number ∙ sym a.number) in
      let z : returns O t p.A ≡ returns O t a.A = ap (returns O t) y in
      let v = p.returned_before in
      omega arith
