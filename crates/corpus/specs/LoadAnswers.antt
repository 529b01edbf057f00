-- How the code's answers say what loading comes to.
use Rattle.recording_meaning.specs.Models.{Model, sequential_model, linearizability_model}
use Rattle.recording.specs.declared.linearizability.LinearizabilityTester.{LinearizabilityTester}
use Rattle.recording.specs.declared.sequential_consistency.SequentialConsistencyTester.{SequentialConsistencyTester}
use Rattle.corpus.specs.declared.load.Loaded.{Loaded}
use Rattle.corpus.specs.Load.{Load}

abbrev pub as_loaded : (M : Model) → Load M → Loaded M.Tester
as_loaded M l = record { number = l.number; place = l.place; tester = l.tester }

abbrev pub as_linearizability : Load linearizability_model → Loaded LinearizabilityTester
as_linearizability = as_loaded linearizability_model

abbrev pub as_sequential : Load sequential_model → Loaded SequentialConsistencyTester
as_sequential = as_loaded sequential_model
