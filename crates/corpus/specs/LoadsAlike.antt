-- A file loads alike into both testers: the sequential tester has the linearizability tester's history.
use Rattle.recording.specs.Testers.{sequential}
use Rattle.recording_meaning.specs.Models.{sequential_model, linearizability_model}
use Rattle.corpus.specs.Load.{Load, load}

-- what is loaded, without the notes
abbrev pub forgetting : Load linearizability_model → Load sequential_model
forgetting l = load sequential_model l.number l.place (sequential l.tester.history)
