-- What a record means: the rows of history's recorder, one for each thread.
use Rattle.std.specs.Prelude.{ℕ, zero, suc, ◌*◌, ◌≡◌, cond, List, [], ◌∷◌, length, take, drop, eqb, Option, Some, None}
use Rattle.std.proofs.Math.Option.{Option as MathOption, none, some}
use Rattle.history.specs.Rows.{Entry, Rows}
use Rattle.values.specs.Sizes.{threads, capacity}
use Rattle.families.specs.Families.{families}
use Rattle.families.specs.declared.Ret.{Ret}
use Rattle.stepping.specs.declared.histories.Operation.{Operation}
use Rattle.stepping.specs.declared.histories.History.{History}
use Rattle.stepping.specs.Record.{held}

-- The lengths of the arrays: every record of the code has them.
pub record Sized (h : History) : Type 0 where
  pub places : length h.ops ≡ capacity
  pub counters : length h.done ≡ threads

-- A return, or none while the operation is in flight.
abbrev pub return_in : Option Ret → MathOption Ret
return_in None = none
return_in (Some r) = some r

-- An operation with its notes.
abbrev pub entry_of : Operation → List ℕ → Entry families
entry_of o needs = record { op = o.op; ret = return_in o.outcome; needs = needs }

-- The operations, each with its thread; the first stands at place i, and needs gives the notes by place.
abbrev pub entries : (ℕ → List ℕ) → ℕ → List Operation → List (ℕ × Entry families)
entries needs i [] = []
entries needs i (o ∷ os) = (o.thread, entry_of o (needs i)) ∷ entries needs (suc i) os

module _ {A : Type 0} where
  -- Of things that are each of a thread, those of thread t, in their order.
  abbrev pub of_thread : ℕ → List (ℕ × A) → List A
  of_thread t [] = []
  of_thread t (p ∷ l) = cond (eqb p.0 t) (p.1 ∷ of_thread t l) (of_thread t l)

  -- A row for each of the n threads from thread k on.
  abbrev pub by_thread : ℕ → ℕ → List (ℕ × A) → List (List A)
  by_thread k zero l = []
  by_thread k (suc n) l = of_thread k l ∷ by_thread (suc k) n l

-- A history's rows, with those notes.
unfoldable pub rows_of : (ℕ → List ℕ) → History → Rows families
rows_of needs h = by_thread 0 threads (entries needs 0 (held h))

-- The notes of the operation at place i, one for each thread.
unfoldable pub notes_of : List ℕ → ℕ → List ℕ
notes_of notes i = take threads (drop (i * threads) notes)

-- The sequential tester keeps no notes.
abbrev pub no_notes : ℕ → List ℕ
no_notes i = []
