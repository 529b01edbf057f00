-- The notes of an operation and the progress of a search, thread by thread.
use Rattle.std.proofs.Common.{ℕ, ◌<◌, ◌≤◌, ◌≡◌, true, false, List, length, arith}
use Rattle.std.proofs.Math.ListN.{get_or}
use Rattle.history.specs.Space.{met}
use Rattle.history.specs.Lists.{not_true}
use Rattle.history.specs.Progress.{met_of, of_met}
use Rattle.values.specs.Sizes.{threads}
use Rattle.stepping.specs.Shape.{note_at}
use Rattle.recording_meaning.specs.Reading.{notes_of}
use Rattle.recording_meaning.specs.Noting.{note_in}

module _ (notes : List ℕ) (i : ℕ) (progress : List ℕ) (long : length progress ≡ threads) where
  pub notes_met : ((u : ℕ) → u < threads → note_at notes i u ≤ get_or progress u 0) → met (notes_of notes i) progress ≡ true
  notes_met f =
      met_of (notes_of notes i) progress (λ u l. let k : u < threads = omega arith in rw (note_in notes i u k) (f u k))

  pub note_unmet : (u : ℕ) → u < threads → get_or progress u 0 < note_at notes i u → met (notes_of notes i) progress ≡ false
  note_unmet u l e = not_true (λ m. omega (arith, note_in notes i u l, of_met (notes_of notes i) progress m u (omega arith)))
