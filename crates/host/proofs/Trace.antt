-- Trace 14 of document 01: trace 3 as a file, of both models, and any budget from 2 on.
use Rattle.std.specs.Prelude.{ℕ, zero, suc, ◌≤◌, ◌≡◌, refl, List, ◌++◌, length, drop}
use Rattle.std.proofs.Common.{ap, ◌∙◌, le-leb}
use Rattle.values.specs.Value.{zigzag, eq_z}
use Rattle.objects.specs.Register.{register_answer, register_after, register_ret_coded}
use Rattle.families.specs.Families.{answers, right, after, same_ret}
use Rattle.families.specs.Codes.{ret_coded}
use Rattle.values.specs.Coded.{same_coded}
use Rattle.families.specs.Family.{family_of, op_family, ret_family, family_number}
use Rattle.families.specs.Refusals.{family_check, op_belongs, ret_belongs, start_check, shape_check, size_check}
use Rattle.values.specs.Checks.{in_order}
use Rattle.families.specs.Objects.{new_register}
use Rattle.families.specs.States.{state_of}
use Rattle.stepping.specs.Record.{fresh, is_pending, flying_by, flying_from, find_flying}
use Rattle.stepping.specs.Shape.{
  done_by,
  count_done,
  notable,
  all_below,
  outcome_fits,
  operation_fits,
  operations_fit,
  none_of,
  flying_last,
  counts_right,
  shape_of,
  notes_fit,
  notes_fit_from,
}
use Rattle.stepping.specs.EventSteps.{begun_of, invoke_of, return_of}
use Rattle.recording.specs.Testers.{
  new_sequential,
  sequential_invoke,
  sequential_return,
  new_linearizability,
  linearizability_invoke,
  linearizability_return,
}
use Rattle.shape.specs.Notes.{notes_in, notes_with}
use Rattle.recording_meaning.specs.Reading.{rows_of, notes_of}
use Rattle.recording_meaning.specs.Models.{sequential_model, linearizability_model}
use Rattle.judging.specs.Answers.{number_of, told_of, judged_of, judge_with}
use Rattle.corpus.specs.Load.{Load}
use Rattle.format.specs.TraceFiles.{trace_14}
use Rattle.corpus.proofs.TraceLoads.{sequential_loads, linearizability_loads}
use Rattle.host.specs.Call.{threads_of, judged_report, report_by, report_of, head_of, bytes_of, answer_size, model_of, call_number, call_answer}
use Rattle.host.proofs.CallMeant.{calls}
use Rattle.host.specs.Trace.{trace_bytes}

sequential_bytes : (budget : ℕ) → 2 ≤ budget → bytes_of (report_of sequential_model trace_14 budget) ≡ trace_bytes
unfolding zigzag eq_z same_coded register_answer register_after register_ret_coded ret_coded answers right after same_ret family_of op_family ret_family family_number family_check op_belongs ret_belongs start_check shape_check size_check in_order new_register state_of
    fresh is_pending flying_by flying_from find_flying done_by count_done all_below outcome_fits operation_fits operations_fit none_of flying_last
    counts_right shape_of begun_of invoke_of return_of new_sequential sequential_invoke sequential_return rows_of number_of told_of
    judged_of judge_with threads_of judged_report report_of head_of bytes_of
sequential_bytes budget h =
    ap (λ (l : Load sequential_model). bytes_of (report_by sequential_model l budget)) sequential_loads ∙ rw (le-leb 2 budget h) refl

linearizability_bytes : (budget : ℕ) → 2 ≤ budget → bytes_of (report_of linearizability_model trace_14 budget) ≡ trace_bytes
unfolding zigzag eq_z same_coded register_answer register_after register_ret_coded ret_coded answers right after same_ret family_of op_family ret_family family_number family_check op_belongs ret_belongs start_check shape_check size_check in_order new_register state_of
    fresh is_pending flying_by flying_from find_flying done_by count_done notable all_below outcome_fits operation_fits operations_fit none_of
    flying_last counts_right shape_of notes_fit notes_fit_from notes_in begun_of invoke_of return_of new_linearizability notes_with
    linearizability_invoke linearizability_return rows_of notes_of number_of told_of judged_of judge_with threads_of judged_report report_of head_of
    bytes_of
linearizability_bytes budget h =
    ap (λ (l : Load linearizability_model). bytes_of (report_by linearizability_model l budget)) linearizability_loads ∙ rw (le-leb 2 budget h) refl

by_model : (model budget : ℕ) → 2 ≤ budget → bytes_of (report_of (model_of model) trace_14 budget) ≡ trace_bytes
by_model zero budget h = sequential_bytes budget h
by_model (suc n) budget h = linearizability_bytes budget h

-- The call makes them the first bytes of any buffer that has room for them.
pub trace_answer : (model budget : ℕ) (answer : List ℕ) → model ≤ 1 → 2 ≤ budget → answer_size ≤ length answer
    → (call_number model answer ≡ 0) × (call_answer trace_14 model budget answer ≡ trace_bytes ++ drop answer_size answer)
trace_answer model budget answer k h long =
    let c = calls trace_14 model budget answer in
    let z = c.done long k in
    (z, c.answered z ∙ ap (λ (l : List ℕ). l ++ drop answer_size answer) (by_model model budget h))
