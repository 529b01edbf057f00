-- What loading a file comes to, by document 01: its header, and then its events, each recorded before the next is read.
use Rattle.std.specs.Prelude.{ℕ, zero, suc, ◌+◌, Bool, true, false, List, [], ◌∷◌, length, drop, pos, eqb, Result}
use Rattle.history.specs.Events.{Event, Events}
use Rattle.families.specs.Families.{families}
use Rattle.families.specs.Objects.{new_register}
use Rattle.families.specs.declared.Kind.{Kind}
use Rattle.families.specs.declared.Object.{Object}
use Rattle.stepping.specs.EventSteps.{number_of as recorded_number}
use Rattle.recording_meaning.specs.Models.{Model}
use Rattle.recording_meaning.specs.Inputs.{as_input, as_inputs, give, feed}
use Rattle.numbers.specs.FileRefusals.{number_of}
use Rattle.numbers.specs.Reader.{Read, got, refused}
use Rattle.format.specs.Format.{header, event}
use Rattle.stepping.specs.declared.recorded.Reason.{Reason}

-- What loading comes to: the number of the refusal, the place of the event that it befell, and the tester as it stands.
pub record Load (M : Model) : Type 0 where
  pub number : ℕ
  pub place : ℕ
  pub tester : M.Tester

module _ (M : Model) where
  -- An event is recorded by its one call, and events one after the other.

  abbrev pub record_event : M.Tester → Event families → Result Unit Reason × M.Tester
  record_event t v = give M t (as_input v)

  abbrev pub record_events : M.Tester → Events families → M.Tester
  record_events t l = feed M t (as_inputs l)

  abbrev pub load : ℕ → ℕ → M.Tester → Load M
  load n p t = record { number = n; place = p; tester = t }

  -- After an event is recorded loading goes on behind it; a refusal stops it.
  abbrev pub onward : (List ℕ → ℕ → M.Tester → Load M) → Bool → List ℕ → ℕ → ℕ → Result Unit Reason × M.Tester → Load M
  onward go true s at used a = go (drop used s) (at + used) a.1
  onward go false s at used a = load (recorded_number a.0) at a.1

  -- The whole event is read before it is recorded.
  abbrev pub turn : (List ℕ → ℕ → M.Tester → Load M) → List ℕ → ℕ → M.Tester → Read (Event families) → Load M
  turn go s at t (got v used) =
      onward go (eqb (recorded_number (record_event t v).0) 0) s at used (record_event t v)
  turn go s at t (refused why) = load (number_of why) at t

  -- The events of the bytes, the first of which is byte `at` of the file, to their end; there are at most as many as bytes.
  unfoldable pub load_from : ℕ → Kind → List ℕ → ℕ → M.Tester → Load M
  load_from zero k s at t = load 0 0 t
  load_from (suc most) k [] at t = load 0 0 t
  load_from (suc most) k (b ∷ bs) at t = turn (load_from most k) (b ∷ bs) at t (event k (b ∷ bs))

  -- A header refusal has place 0 and a fresh default register.
  abbrev pub load_by : List ℕ → Read Object → Load M
  load_by s (got o used) = load_from (length s) o.kind (drop used s) used (M.new o)
  load_by s (refused why) = load (number_of why) 0 (M.new (new_register (pos 0)))

  unfoldable pub load_of : List ℕ → Load M
  load_of s = load_by s (header s)
