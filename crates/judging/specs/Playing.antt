-- Placing the operations of a path of threads, one after the other, from the initial object on.
use Rattle.std.specs.Prelude.{ℕ, ◌+◌, ◌<◌, List, [], ◌∷◌, length, get_or, set, replicate, ℤ}
use Rattle.values.specs.Sizes.{threads}
use Rattle.families.specs.Placing.{held_of, given_of, held_after, leaves_of}
use Rattle.values.specs.declared.held.Held.{Held}
use Rattle.stepping.specs.declared.histories.Operation.{Operation}
use Rattle.stepping.specs.declared.histories.History.{History}
use Rattle.stepping.specs.Record.{operation_at}
use Rattle.judging.specs.declared.answer.Placed.{Placed}
use Rattle.judging.specs.Answers.{placed}
use Rattle.judging.specs.Places.{places_of}

-- A situation of the search: the object, and of each thread how many operations are placed.
pub record Situation : Type 0 where
  pub items : List ℤ
  pub held : Held
  pub progress : List ℕ

abbrev pub situation : List ℤ → Held → List ℕ → Situation
situation items h ps = record { items = items; held = h; progress = ps }

module _ (h : History) where
  -- Nothing is placed.
  abbrev pub origin : Situation
  origin = situation h.start.items (held_of h.start.kind) (replicate threads 0)

  -- The operation that thread t has next.
  abbrev pub upcoming : Situation → ℕ → Operation
  upcoming s t = operation_at h (get_or (places_of h t) (get_or s.progress t 0) 0)

  -- One more of thread t is placed.
  abbrev pub onward : Situation → ℕ → Situation
  onward s t =
      situation (leaves_of s.items s.held (upcoming s t).op) (held_after s.held (upcoming s t).op) (set s.progress t (get_or s.progress t 0 + 1))

  -- The return that thread t's next operation has here.
  abbrev pub given_to : Situation → ℕ → Placed
  given_to s t = placed t (given_of s.items s.held (upcoming s t).op (upcoming s t).outcome)

  -- The places of the order that a path makes.
  unfoldable pub played : Situation → List ℕ → List Placed
  played s [] = []
  played s (t ∷ ts) = given_to s t ∷ played (onward s t) ts

  -- Where a path leads.
  unfoldable pub reached : Situation → List ℕ → Situation
  reached s [] = s
  reached s (t ∷ ts) = reached (onward s t) ts

  -- Each thread of a path is one of the threads and has an operation left.
  unfoldable pub Playable : Situation → List ℕ → Type 0
  Playable s [] = Unit {0}
  Playable s (t ∷ ts) = (t < threads) × (get_or s.progress t 0 < length (places_of h t)) × Playable (onward s t) ts
