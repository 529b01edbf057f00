-- A record in shape and valid is searched with the notes that its tester hands out, and any other is Invalid.
use Rattle.std.proofs.Common.{refl, sym, ap, ◌∙◌, true, false}
use Rattle.recording_meaning.specs.Reading.{notes_of}
use Rattle.judging.specs.Answers.{told_of}
use Rattle.judging.proofs.Answering.{judge_by}
use Rattle.judging.proofs.Unnoted.{judged_same}
use Rattle.judging.proofs.judge.judge.Goals as goal
use Rattle.judging.proofs.judge.judge.Goals.{else-is_in_shape-via-then-is_in_shape+else-history, else-is_in_shape-via-else-is_in_shape}

pub returns-then-history : goal.returns-then-history
returns-then-history g c =
    let t = g.T.ConsistencyTester in
    let needs = g.T.AsRows.needs in
    let tester = c.args.tester in
    rw (c.notes.ensures, c.history-history.ensures.is) at c.search.ensures
    ∙ ap told_of (judged_same (notes_of (t.noted tester)) (needs tester) (g.met.T.AsRows.alike tester) (t.held tester) c.args.budget)
    ∙ judge_by t.shaped t.held needs tester c.args.budget true true (sym c.is_in_shape.ensures ∙ c.if-is_in_shape.true)
    (rw c.history-history.ensures.is at c.if-history.true)

pub returns : goal.returns
returns g c =
    let t = g.T.ConsistencyTester in
    let by = judge_by t.shaped t.held g.T.AsRows.needs c.args.tester c.args.budget in
    let shaped = c.is_in_shape.ensures in
    c.without_order.ensures
    ∙ elim c.else-is_in_shape.branch [
      | else-is_in_shape-via-then-is_in_shape+else-history w ↦ by true false (sym shaped ∙ w.if-is_in_shape.true)
          (rw c.history-history.ensures.is at w.if-history.false)
      | else-is_in_shape-via-else-is_in_shape w ↦ by false (t.held c.args.tester).valid (sym shaped ∙ w.if-is_in_shape.false) refl
    ]
