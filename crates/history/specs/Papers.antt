-- Linearizability as Herlihy and Wing define it (1990) and sequential consistency as Lamport does (1979), for one object, over events.
use Rattle.std.specs.Prelude.{ℕ, ◌<◌, ◌≡◌, Bool, true, false, cond, ◌||◌, [], ◌∷◌, ◌++◌, eqb}
use Rattle.history.specs.Object.{Object}
use Rattle.history.specs.Events.{Events, invoked, returned, invocations, sub, WellFormed, Precedes}

module _ (O : Object) where
  -- Thread t has a response in H.
  abbrev pub responds : ℕ → Events O → Bool
  responds t [] = false
  responds t (invoked u o ∷ H) = responds t H
  responds t (returned u r ∷ H) = eqb u t || responds t H

  -- complete(H): H without the invocations that have no response.
  abbrev pub complete : Events O → Events O
  complete [] = []
  complete (invoked t o ∷ H) = cond (responds t H) (invoked t o ∷ complete H) (complete H)
  complete (returned t r ∷ H) = returned t r ∷ complete H

  -- Nothing but responses.
  pub data Responses : Events O → Type 0 where
    none_left : Responses []
    response : {t : ℕ} {r : O.Ret} {R : Events O} → Responses R → Responses (returned t r ∷ R)

  -- H' extends H by responses, to pending invocations since H' is well-formed.
  pub record Extension (H H' : Events O) : Type 0 where
    pub responses : Events O
    pub only : Responses responses
    pub appended : H' ≡ H ++ responses
    pub formed : WellFormed O H'

  -- Equivalent: every thread sees the same.
  abbrev pub Equivalent : Events O → Events O → Type 0
  Equivalent H S = (t : ℕ) → sub O t H ≡ sub O t S

  -- A sequential history, each invocation followed by its response, that is legal: from the state s on every response is right.
  pub data Sequential : O.State → Events O → Type 0 where
    rest : {s : O.State} → Sequential s []
    step : {s : O.State} {t : ℕ} {o : O.Op} {r : O.Ret} {S : Events O} → O.ok s o r ≡ true → Sequential (O.after s o) S
        → Sequential s (invoked t o ∷ returned t r ∷ S)

  -- Thread u's k-th operation is in S.
  abbrev pub In : ℕ → ℕ → Events O → Type 0
  In u k S = k < invocations O u S

  -- L1: complete(H'), for some extension H' of H, is equivalent to the legal sequential history S.
  pub record Explains (s : O.State) (H S : Events O) : Type 0 where
    pub H' : Events O
    pub extension : Extension H H'
    pub equivalent : Equivalent (complete H') S
    pub legal : Sequential s S

  -- L2: what precedes an operation of S in H precedes it in S.
  abbrev pub KeepsTime : Events O → Events O → Type 0
  KeepsTime H S = (t j u k : ℕ) → Precedes O H t j u k → In u k S → Precedes O S t j u k

  -- Herlihy and Wing: some S with L1 and L2.
  pub record Linearizable (s : O.State) (H : Events O) : Type 0 where
    pub S : Events O
    pub explains : Explains s H S
    pub keeps_time : KeepsTime H S

  -- Lamport: the operations of all threads in some sequential order, those of each thread in its own order.
  pub record SequentiallyConsistent (s : O.State) (H : Events O) : Type 0 where
    pub S : Events O
    pub explains : Explains s H S
