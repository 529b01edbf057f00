-- A record in shape and valid has its order replayed with the notes that its tester hands out, and any other gets no.
use Rattle.std.proofs.Common.{sym, ◌∙◌}
use Rattle.history.specs.Lists.{not_both}
use Rattle.recording_meaning.specs.Reading.{Sized}
use Rattle.recording_meaning.specs.Parts.{parts_of}
use Rattle.witness.proofs.Endings.{notes_met}
use Rattle.witness.proofs.Checks.{check_unshaped, check_invalid, check_replayed}
use Rattle.witness.proofs.check.check.Goals as goal
use Rattle.witness.proofs.check.check.Goals.{then-is_in_shape, else-is_in_shape}

pub replay-requires : goal.replay-requires
replay-requires g c =
    elim c.if-is_in_shape.branch [
      | then-is_in_shape w ↦ rw (sym c.history-history.ensures.is)
          at (parts_of _ (g.met.T.AsRows.sound c.args.tester (sym c.is_in_shape.ensures ∙ w.if-is_in_shape.true))).few
      | else-is_in_shape w ↦ not_both c.if-history.true (w.value-is ∙ w.if-is_in_shape.false)
    ]

pub returns-then-history : goal.returns-then-history
returns-then-history g c =
    let t = g.T.ConsistencyTester in
    let tester = c.args.tester in
    let held = c.history-history.ensures in
    let sized : Sized c.history-history.result = record { places = held.sized.0; counters = held.sized.1 } in
    elim c.if-is_in_shape.branch [
      | then-is_in_shape w ↦ let shaped = sym c.is_in_shape.ensures ∙ w.if-is_in_shape.true in
          check_replayed t.shaped t.held g.T.AsRows.needs tester c.args.order.now shaped
          (rw held.is at (sym w.value-is ∙ c.if-history.true)) (rw held.is at sized) (rw held.is at held.sized.2)
          (g.met.T.AsRows.sound tester shaped) (t.noted tester)
          (λ i ps many. sym (g.met.T.AsRows.alike tester i ps) ∙ notes_met (t.noted tester) i ps many) _
          (rw (held.is, c.notes.ensures) at c.replay.ensures)
      | else-is_in_shape w ↦ not_both c.if-history.true (w.value-is ∙ w.if-is_in_shape.false)
    ]

pub returns-else-history : goal.returns-else-history
returns-else-history g c =
    let t = g.T.ConsistencyTester in
    let needs = g.T.AsRows.needs in
    let tester = c.args.tester in
    c.if-history.false
    ∙ elim c.if-is_in_shape.branch [
      | then-is_in_shape w ↦ check_invalid t.shaped t.held needs tester c.args.order.now (sym c.is_in_shape.ensures ∙ w.if-is_in_shape.true)
          (rw c.history-history.ensures.is at (sym w.value-is ∙ c.if-history.false))
      | else-is_in_shape w ↦ check_unshaped t.shaped t.held needs tester c.args.order.now (sym c.is_in_shape.ensures ∙ w.if-is_in_shape.false)
    ]
