-- Events, and what they say of time.
use Rattle.std.specs.Prelude.{ℕ, ◌+◌, ◌<◌, ◌≡◌, cond, List, [], ◌∷◌, ◌++◌, eqb}
use Rattle.history.specs.Object.{Object}

module _ (O : Object) where
  -- A thread invokes an operation; a thread returns an answer.
  pub data Event : Type 0 where
    invoked : ℕ → O.Op → Event
    returned : ℕ → O.Ret → Event

  -- A history, oldest event first.
  abbrev pub Events : Type 0
  Events = List Event

  -- The thread that an event is of.
  abbrev pub thread_of : Event → ℕ
  thread_of (invoked t o) = t
  thread_of (returned t r) = t

  -- Every event is of one of the threads 0 to k - 1.
  abbrev pub ThreadsBelow : ℕ → Events → Type 0
  ThreadsBelow k [] = Unit {0}
  ThreadsBelow k (v ∷ H) = (thread_of v < k) × ThreadsBelow k H

  -- 1 for an invocation by thread t, and 0 for any other event.
  abbrev pub is_invocation : ℕ → Event → ℕ
  is_invocation t (invoked u o) = cond (eqb u t) 1 0
  is_invocation t (returned u r) = 0

  -- 1 for a return to thread t, and 0 for any other event.
  abbrev pub is_return : ℕ → Event → ℕ
  is_return t (invoked u o) = 0
  is_return t (returned u r) = cond (eqb u t) 1 0

  -- How often a thread invoked.
  abbrev pub invocations : ℕ → Events → ℕ
  invocations t [] = 0
  invocations t (v ∷ H) = is_invocation t v + invocations t H

  -- How often a thread returned.
  abbrev pub returns : ℕ → Events → ℕ
  returns t [] = 0
  returns t (v ∷ H) = is_return t v + returns t H

  -- H|t: the events of a thread.
  abbrev pub sub : ℕ → Events → Events
  sub t [] = []
  sub t (v ∷ H) = cond (eqb (thread_of v) t) (v ∷ sub t H) (sub t H)

  -- Invocations and responses in turn, an invocation first; the last one may have no response.
  pub data Alternates : Events → Type 0 where
    nothing : Alternates []
    waiting : {t : ℕ} {o : O.Op} → Alternates (invoked t o ∷ [])
    call : {t : ℕ} {o : O.Op} {r : O.Ret} {H : Events} → Alternates H → Alternates (invoked t o ∷ returned t r ∷ H)

  -- Well-formed: each thread does one thing after the other.
  abbrev pub WellFormed : Events → Type 0
  WellFormed H = (t : ℕ) → Alternates (sub t H)

  -- Thread t's j-th operation returned before thread u's k-th was invoked (both counted from 0): H is A, that invocation, and B, and t has
  -- returned more than j times in A.
  pub record Precedes (H : Events) (t j u k : ℕ) : Type 0 where
    pub A : Events
    pub op : O.Op
    pub B : Events
    pub split : H ≡ A ++ (invoked u op ∷ B)
    pub number : invocations u A ≡ k
    pub returned_before : j < returns t A
