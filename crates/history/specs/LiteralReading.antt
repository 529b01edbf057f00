-- L2 read to the letter, where <_H is between operations that are both completed in H, is weaker than L2 as it is taken: a register may then answer what
-- is only written after the read was over, by a write that never returns.
use Rattle.std.specs.Prelude.{ℕ, ◌<◌, Bool, true, false, [], ◌∷◌, eqb}
use Rattle.history.specs.Object.{Object}
use Rattle.history.specs.Events.{Events, invoked, returned, returns, Precedes}
use Rattle.history.specs.Papers.{Explains}

module _ (O : Object) where
  -- L2 to the letter: what precedes in H an operation that has its response in H precedes it in S. One that is pending in H may stand anywhere.
  abbrev pub KeepsCompletedTime : Events O → Events O → Type 0
  KeepsCompletedTime H S = (t j u k : ℕ) → Precedes O H t j u k → k < returns O u H → Precedes O S t j u k

  -- Some S with L1 and L2 to the letter.
  pub record LinearizableLiterally (s : O.State) (H : Events O) : Type 0 where
    pub S : Events O
    pub explains : Explains O s H S
    pub keeps_time : KeepsCompletedTime H S

-- A register of numbers.

pub data Asked : Type 0 where
  write : ℕ → Asked
  read : Asked

pub data Told : Type 0 where
  write_ok : Told
  read_ok : ℕ → Told

abbrev pub right : ℕ → Asked → Told → Bool
right s (write v) write_ok = true
right s (write v) (read_ok w) = false
right s read write_ok = false
right s read (read_ok w) = eqb s w

abbrev pub answers : ℕ → Asked → Told
answers s (write v) = write_ok
answers s read = read_ok s

abbrev after : ℕ → Asked → ℕ
after s (write v) = v
after s read = s

abbrev pub register : Object
register = record { State = ℕ; Op = Asked; Ret = Told; ok = right; answers = answers; after = after }

-- T1 reads 5, done; T0 then invokes Write 5, pending.
abbrev pub read_before_written : Events register
read_before_written = invoked 1 read ∷ returned 1 (read_ok 5) ∷ invoked 0 (write 5) ∷ []
