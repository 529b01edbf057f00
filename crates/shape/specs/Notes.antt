-- The notes beside a history: when they are in shape, and what an invocation writes.
use Rattle.std.specs.Prelude.{ℕ, zero, suc, ◌+◌, ◌*◌, Bool, false, List, get_or, set, leb}
use Rattle.values.specs.Value.{pick}
use Rattle.values.specs.Sizes.{threads, capacity}
use Rattle.stepping.specs.declared.histories.History.{History}
use Rattle.stepping.specs.Record.{held}
use Rattle.stepping.specs.Shape.{notable, notes_fit_from}

-- in shape, beside a history that is not too long
unfoldable pub notes_in : History → List ℕ → Bool
notes_in h notes = pick (leb h.count capacity) (notes_fit_from h.done notes 0 (held h)) false

-- the first n notes of the operation at place i, of thread `own`: of each other thread, how many have completed
unfoldable pub notes_with : List ℕ → ℕ → ℕ → List ℕ → ℕ → List ℕ
notes_with done own i notes zero = notes
notes_with done own i notes (suc u) = set (notes_with done own i notes u) (i * threads + u) (notable (get_or done u 0) own u)

-- the notes of the operation at place i, of thread `own`; a place that no operation has gets none
unfoldable pub noted_at : List ℕ → ℕ → ℕ → List ℕ → List ℕ
noted_at done own i notes = pick (leb capacity i) notes (notes_with done own i notes threads)
