-- The tester is made of the header's object, and fed with the events behind it.
use Rattle.std.proofs.Common.{refl, ap, ◌∙◌}
use Rattle.recording.specs.declared.consistency_tester.New.{New}
use Rattle.recording.specs.declared.linearizability.LinearizabilityTester.{LinearizabilityTester}
use Rattle.recording_meaning.specs.Models.{linearizability_model}
use Rattle.format.specs.Format.{header}
use Rattle.corpus.specs.LoadAnswers.{as_linearizability}
use Rattle.format.specs.Taking.{first_in}
use Rattle.format.specs.FileSays.{header_clear}
use Rattle.format.specs.Lengths.{header_field, header_short}
use Rattle.format.specs.Answered.{header_got, header_refused}
use Rattle.corpus.proofs.Loading.{load_refused, load_fed}
use Rattle.corpus.proofs.linearizability.load.Goals as goal

pub feed-requires : goal.feed-requires
feed-requires c =
    let file = c.args.file.now in
    let head = header_got (header file) c.read_header.ensures c.in-Ok.is in
    let fresh = ap (λ (y : New LinearizabilityTester). y.tester) c.new-in-Ok.ensures in
    (record { start = _; of_kind = refl; clear = header_clear file _ _ head; new = fresh }, ((first_in header 6 header_field file _ _ head).1, header_short file _ _ head))

pub returns-in-Err : goal.returns-in-Err
returns-in-Err c =
    let file = c.args.file.now in
    let no-head = header_refused (header file) c.read_header.ensures c.in-Err.is in
    let fresh = ap (λ (y : New LinearizabilityTester). y.tester) c.new.ensures in
    ap as_linearizability (load_refused linearizability_model file _ no-head.0 _ _ c.from.ensures (fresh ∙ ap linearizability_model.new no-head.1))

pub returns-in-Ok : goal.returns-in-Ok
returns-in-Ok c =
    let file = c.args.file.now in
    let head = header_got (header file) c.read_header.ensures c.in-Ok.is in
    let fresh = ap (λ (y : New LinearizabilityTester). y.tester) c.new-in-Ok.ensures in
    c.feed.ensures ∙ ap as_linearizability (load_fed linearizability_model file _ _ head _ fresh)
