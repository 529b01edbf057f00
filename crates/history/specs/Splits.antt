-- Events: a thread's own, and an invocation's place by its number.
use Rattle.std.specs.Prelude.{ℕ, ◌≡◌, refl, ◌≢◌, Bool, true, false, cond, [], ◌∷◌, ◌++◌, eqb}
use Rattle.std.proofs.Common.{sym, eq-eqb, ne_eqb}
use Rattle.history.specs.Object.{Object}
use Rattle.history.specs.Events.{Event, Events, invoked, returned, thread_of}
use Rattle.history.specs.Events.{invocations, sub, Alternates, call}

module _ (O : Object) where
  -- a thread's events are its own

  pub sub_append : (t : ℕ) (H K : Events O) → sub O t (H ++ K) ≡ sub O t H ++ sub O t K
  sub_append t [] K = refl
  sub_append t (v ∷ H) K = rw (sub_append t H K) (go (eqb (thread_of O v) t))
    where
      go : (b : Bool) → cond b (v ∷ (sub O t H ++ sub O t K)) (sub O t H ++ sub O t K) ≡ cond b (v ∷ sub O t H) (sub O t H) ++ sub O t K
      go true = refl
      go false = refl

  pub sub_mine : (t : ℕ) (v : Event O) (H : Events O) → thread_of O v ≡ t → sub O t (v ∷ H) ≡ v ∷ sub O t H
  sub_mine t v H h = rw (eq-eqb (thread_of O v) t h)

  pub sub_not_mine : (u : ℕ) (v : Event O) (H : Events O) → u ≢ thread_of O v → sub O u (v ∷ H) ≡ sub O u H
  sub_not_mine u v H h = rw (ne_eqb (thread_of O v) u (λ z. h (sym z)))

  pub tail_alternates : {t u : ℕ} {o : O.Op} {q : O.Ret} {H : Events O} → Alternates O (invoked t o ∷ returned u q ∷ H) → Alternates O H
  tail_alternates (call a) = a

  -- an invocation is at one place

  -- H is A, thread u's k-th invocation, and B
  pub record At (H : Events O) (u k : ℕ) : Type 0 where
    pub A : Events O
    pub op : O.Op
    pub B : Events O
    pub split : H ≡ A ++ (invoked u op ∷ B)
    pub number : invocations O u A ≡ k
