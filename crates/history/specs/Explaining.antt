-- A replay of rows and a legal sequential history, step for step.
use Rattle.std.specs.Prelude.{ℕ, ◌+◌, ◌≤◌, ◌<◌, ◌≡◌, List, ◌∷◌, ◌++◌, length, get_or, drop}
use Rattle.history.specs.Object.{Object}
use Rattle.history.specs.Events.{Events, invoked, invocations, returns, sub}
use Rattle.history.specs.Papers.{Responses, Sequential}
use Rattle.history.specs.Rows.{Entry, Rows, row, Is}
use Rattle.history.specs.Completions.{Fits}

module _ (O : Object) (rows : Rows O) where
  -- where ps are placed already, each operation of the sequential history S stands after those that it notes
  abbrev pub KeepsNotes : List ℕ → Events O → Type 0
  KeepsNotes ps S = (A : Events O) (u : ℕ) (o : O.Op) (B : Events O) (e : Entry O) → S ≡ A ++ (invoked u o ∷ B)
      → Is O rows u (get_or ps u 0 + invocations O u A) e
      → (t : ℕ) → t < length rows → get_or e.needs t 0 ≤ get_or ps t 0 + returns O t A

  -- what is left of a thread's row
  abbrev pub Left : List ℕ → ℕ → List (Entry O)
  Left ps t = drop (get_or ps t 0) (row O rows t)

  -- a legal sequential history of what is left, with the responses that it adds
  pub record Told (ps : List ℕ) (s : O.State) : Type 0 where
    pub S : Events O
    pub R : Events O
    pub legal : Sequential O s S
    pub only : Responses O R
    pub fits : (t : ℕ) → Fits O t (Left ps t) (sub O t S) (sub O t R)
    pub keeps : KeepsNotes ps S

  -- and back

  abbrev pub AllFit : List ℕ → Events O → Type 0
  AllFit ps S = (t : ℕ) → (R : Events O) × Fits O t (Left ps t) (sub O t S) R
