-- Fed from fresh, the notes say exactly what the events say.
use Rattle.std.specs.Prelude.{ℕ, ◌<◌, ◌≡◌, ◌↔◌, ◌≢◌, get_or}
use Rattle.history.specs.Object.{Object}
use Rattle.history.specs.Events.{Events, Precedes}
use Rattle.history.specs.Rows.{Entry, Rows, Is}

module _ (O : Object) where
  -- The notes say exactly what the events say: an operation notes more than j of another thread exactly if that thread's j-th operation returned
  -- before it was invoked. It notes nothing of its own thread.
  pub record Tells (H : Events O) (rows : Rows O) : Type 0 where
    pub others : (t k : ℕ) (e : Entry O) → Is O rows t k e → (u : ℕ) → u ≢ t → (j : ℕ) → j < get_or e.needs u 0 ↔ Precedes O H u j t k
    pub own : (t k : ℕ) (e : Entry O) → Is O rows t k e → get_or e.needs t 0 ≡ 0
