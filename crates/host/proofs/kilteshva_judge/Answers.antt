use Rattle.std.proofs.Common.{ℕ, ◌≡◌, sym, ◌∙◌, subst, arith}
use Rattle.recording_meaning.specs.Models.{sequential_model, linearizability_model}
use Rattle.host.specs.Call.{report_of, model_of}
use Rattle.host.proofs.CallMeant.{calls}
use Rattle.host.proofs.Calling.{unwritten, written, reported_as}
use Rattle.host.proofs.kilteshva_judge.Goals as goal
use Rattle.host.proofs.kilteshva_judge.Goals.{then-model-eq0, else-model-eq0}

pub returns-then-answer-lt-ANSWER : goal.returns-then-answer-lt-ANSWER
returns-then-answer-lt-ANSWER c =
    let a = c.args in
    let w = unwritten a.file.now a.answer.now a.model a.budget 9 ((calls a.file.now a.model a.budget a.answer.now).short c.if-answer-lt-ANSWER.true) in
    record { number = w.0; bytes = w.1 }

pub returns-then-model-gt1 : goal.returns-then-model-gt1
returns-then-model-gt1 c =
    let a = c.args in
    let w = unwritten a.file.now a.answer.now a.model a.budget 10
    ((calls a.file.now a.model a.budget a.answer.now).stranger c.if-answer-lt-ANSWER.false c.if-model-gt1.true) in
    record { number = w.0; bytes = w.1 }

pub returns : goal.returns
returns c =
    let a = c.args in
    let file = a.file.now in
    let e : c.if-model-eq0.report ≡ report_of (model_of a.model) file a.budget = elim c.if-model-eq0.branch [
      | then-model-eq0 w ↦ w.report-is
          ∙ subst (λ (m : ℕ). w.reported-report.result ≡ report_of (model_of m) file a.budget) (sym w.if-model-eq0.true)
          (reported_as sequential_model file a.budget _ _ w.load.ensures w.reported-report.ensures)
      | else-model-eq0 w ↦ let one : 1 ≡ a.model = omega (arith, w.if-model-eq0.false, c.if-model-gt1.false) in
          w.report-is
          ∙ subst (λ (m : ℕ). w.reported-report-else-model-eq0.result ≡ report_of (model_of m) file a.budget) one
          (reported_as linearizability_model file a.budget _ _ w.load-else-model-eq0.ensures w.reported-report-else-model-eq0.ensures)
    ] in
    let z = (calls file a.model a.budget a.answer.now).done c.if-answer-lt-ANSWER.false c.if-model-gt1.false in
    let w = written file a.answer.now a.model a.budget z _ e c.lay.new.answer c.lay.ensures in
    record { number = w.0; bytes = w.1 }
