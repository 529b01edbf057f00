-- The object that a history is about, whatever it is.
use Rattle.std.specs.Prelude.{◌≡◌, Bool, true}

-- An abstract sequential object.
pub record Object : Type 1 where
  pub State : Type 0
  pub Op : Type 0
  pub Ret : Type 0
  -- in this state, this return of this operation is right: a relation, since several returns may be
  pub ok : State → Op → Ret → Bool
  -- the return that the object itself gives
  pub answers : State → Op → Ret
  -- the state that the operation leaves, whichever right return it had
  pub after : State → Op → State

-- What the object answers is right.
pub record Lawful (O : Object) : Type 0 where
  pub answers_ok : (s : O.State) (o : O.Op) → O.ok s o (O.answers s o) ≡ true
