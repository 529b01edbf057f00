-- What is left of the words goes through from the stage in hand exactly if all of them do from the start.
use Rattle.std.proofs.Common.{◌≡◌, length}
use Rattle.witness.specs.WordsPlayed.{play_from, play_of}
use Rattle.witness.proofs.replay.replay.Given as goal

abbrev pub invariant-loop-place_words : goal.invariant-loop-place_words
invariant-loop-place_words l = play_from l.notes l.history l.stage l.rest ≡ play_of l.notes l.history l.order

abbrev pub decreases-loop-place_words : goal.decreases-loop-place_words
decreases-loop-place_words l = length l.rest
