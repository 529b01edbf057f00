-- The history that the other loader holds, without its notes.
use Rattle.std.proofs.Common.{sym, ap, ◌∙◌}
use Rattle.recording.specs.Testers.{sequential}
use Rattle.recording.specs.declared.linearizability.LinearizabilityTester.{LinearizabilityTester}
use Rattle.corpus.specs.declared.load.Loaded.{Loaded}
use Rattle.corpus.specs.LoadAnswers.{as_sequential}
use Rattle.corpus.proofs.LoadsAlike.{loads_alike}
use Rattle.corpus.proofs.sequential_consistency.load.Goals as goal

pub returns : goal.returns
returns c = ap (λ (l : Loaded LinearizabilityTester). record { number = l.number; place = l.place; tester = sequential l.tester.history }) c.load-loaded.ensures ∙ ap as_sequential (sym (loads_alike c.args.file.now))
