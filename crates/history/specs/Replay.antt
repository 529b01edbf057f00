-- A replay takes an order step by step.
use Rattle.std.specs.Prelude.{ℕ, ◌≡◌, true, [], ◌∷◌}
use Rattle.history.specs.Object.{Object}
use Rattle.history.specs.Rows.{Rows}
use Rattle.history.specs.Orders.{Order}
use Rattle.history.specs.Space.{Node, all_placed, stepped, Plays}

module _ (O : Object) (rows : Rows O) where
  -- from a situation on: each item is its thread's next operation with a return that is right there, after all that it notes; in the end every
  -- completed operation is placed
  pub data Replays : Node O → Order O → Type 0 where
    ended : {x : Node O} → all_placed O rows x.progress ≡ true → Replays x []
    played : {x : Node O} {t : ℕ} {r : O.Ret} {p : Order O} (h : Plays O rows x t r) → Replays (stepped O x t h.entry) p
        → Replays x (record { thread = t; ret = r } ∷ p)
