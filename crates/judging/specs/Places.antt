-- Where each thread's operations stand in a history, and the arrays that say it.
use Rattle.std.specs.Prelude.{ℕ, zero, suc, ◌+◌, ◌*◌, ◌≤◌, ◌<◌, ◌≡◌, List, [], ◌∷◌, ◌++◌, length, get_or, eqb}
use Rattle.values.specs.Value.{pick}
use Rattle.values.specs.Sizes.{threads, capacity, room}
use Rattle.stepping.specs.declared.histories.History.{History}
use Rattle.stepping.specs.Record.{operation_at}

-- Each array of a history has its size.
abbrev pub Whole : History → Type 0
Whole h = (length h.ops ≡ capacity) × (length h.done ≡ threads) × (length h.start.items ≡ room)

module _ (h : History) where
  -- The places of thread t's operations among the first n, in their order.
  unfoldable pub places_in : ℕ → ℕ → List ℕ
  places_in t zero = []
  places_in t (suc n) = places_in t n ++ pick (eqb (operation_at h n).thread t) (n ∷ []) []

  -- Thread t's places.
  abbrev pub places_of : ℕ → List ℕ
  places_of t = places_in t h.count

  -- Of the first n operations: how many are a thread's, and where its j-th one stands.

  abbrev pub StartedTo : ℕ → List ℕ → Type 0
  StartedTo n started = (t : ℕ) → t < threads → get_or started t 0 ≡ length (places_in t n)

  abbrev pub SlottedTo : ℕ → List ℕ → Type 0
  SlottedTo n slot = (t j : ℕ) → t < threads → j < length (places_in t n) → get_or slot (t * capacity + j) 0 ≡ get_or (places_in t n) j 0

  -- Of all of them.

  abbrev pub Started : List ℕ → Type 0
  Started started = StartedTo h.count started

  abbrev pub Slotted : List ℕ → Type 0
  Slotted slot = SlottedTo h.count slot

-- The first thread from `from` on that has an operation to place, or `threads`.
pub record Ready (started progress : List ℕ) (from r : ℕ) : Type 0 where
  pub above : from ≤ r
  pub below : r ≤ threads
  pub passed : (k : ℕ) → from ≤ k → k < r → get_or started k 0 ≤ get_or progress k 0
  pub has : r < threads → get_or progress r 0 < get_or started r 0

-- The sum of a list.
unfoldable pub sum_of : List ℕ → ℕ
sum_of [] = 0
sum_of (n ∷ l) = n + sum_of l
