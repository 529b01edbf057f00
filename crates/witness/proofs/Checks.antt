-- The checker's answer from that of the replay on the record, for any tester.
use Rattle.std.proofs.Common.{ℕ, ◌*◌, ◌≡◌, ◌∙◌, Bool, true, false, List, length}
use Rattle.history.specs.Space.{met}
use Rattle.values.specs.Value.{pick}
use Rattle.values.specs.Sizes.{threads, room}
use Rattle.stepping.specs.declared.histories.History.{History}
use Rattle.stepping.specs.Shape.{shape_of}
use Rattle.recording_meaning.specs.Reading.{Sized}
use Rattle.witness.specs.Checking.{check_with}
use Rattle.witness.specs.WordsPlayed.{reaches_of, play_of}
use Rattle.witness.proofs.Stages.{played}

both_passed : (a b : Bool) (x : Bool) → a ≡ true → b ≡ true → x ≡ pick a (pick b x false) false
both_passed a b x d e = rw (d, e)

module _ {T : Type 0} (shaped : T → Bool) (history : T → History) (needs : T → ℕ → List ℕ) (s : T) (ws : List ℕ) where
  pub check_unshaped : shaped s ≡ false → false ≡ check_with shaped history needs s ws
  unfolding check_with
  check_unshaped e = rw e

  pub check_invalid : shaped s ≡ true → (history s).valid ≡ false → false ≡ check_with shaped history needs s ws
  unfolding check_with
  check_invalid e v = rw (e, v)

  pub check_replayed : shaped s ≡ true → (history s).valid ≡ true → Sized (history s) → length (history s).start.items ≡ room
      → shape_of (history s) ≡ true → (notes : List ℕ)
      → ((i : ℕ) (ps : List ℕ) → length ps ≡ threads → met (needs s i) ps ≡ reaches_of notes (i * threads) ps)
      → (b : Bool) → b ≡ play_of notes (history s) ws → b ≡ check_with shaped history needs s ws
  unfolding check_with
  check_replayed e v z full k notes timely b q =
      q ∙ played notes (needs s) (history s) z k timely full ws ∙ both_passed (shaped s) (history s).valid _ e v
