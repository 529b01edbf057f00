-- All the traces hold, by computation.
use Rattle.std.specs.Prelude.{◌≡◌, refl, true, false, [], ◌++◌, length, replicate}
use Rattle.std.proofs.Common.{ap}
use Rattle.values.specs.Value.{zigzag, eq_z}
use Rattle.values.specs.Coded.{maybe_coded, same_coded}
use Rattle.objects.specs.Register.{register_answer, register_after, register_ret_coded}
use Rattle.objects.specs.WriteOnce.{writes, write_answer, once_answer, once_after, once_ret_coded}
use Rattle.objects.specs.Stack.{stack_answer, stack_after, stack_ret_coded, depth_check, low_check, held_values}
use Rattle.families.specs.Families.{answers, right, after, same_ret}
use Rattle.families.specs.Codes.{ret_coded}
use Rattle.families.specs.Family.{family_of, op_family, ret_family, family_number}
use Rattle.values.specs.Checks.{number_of as refusal_number, in_order}
use Rattle.families.specs.Refusals.{family_check, op_belongs, ret_belongs, start_check, shape_check, size_check}
use Rattle.families.specs.Objects.{new_register, new_once, new_stack}
use Rattle.families.specs.States.{state_of}
use Rattle.stepping.specs.Record.{fresh, is_pending, flying_by, flying_from, find_flying}
use Rattle.stepping.specs.Shape.{done_by, count_done, notable, all_below, outcome_fits, operation_fits, operations_fit, none_of, flying_last, counts_right, shape_of, notes_fit, notes_fit_from}
use Rattle.stepping.specs.EventSteps.{reason_number, number_of, breaks, valid_after, begun_of, invoke_of, return_of, size_of}
use Rattle.recording.specs.Calls.{held_by}
use Rattle.recording.specs.Testers.{new_sequential, sequential_invoke, sequential_return, new_linearizability, linearizability_invoke, linearizability_return}
use Rattle.shape.specs.Notes.{notes_in, notes_with}
use Rattle.recording_meaning.specs.Reading.{rows_of, notes_of}
use Rattle.recording_meaning.specs.Models.{Model, sequential_model, linearizability_model}
use Rattle.recording_meaning.specs.Inputs.{Inputs, feed}
use Rattle.recording_meaning.specs.Meaning.{Means}
use Rattle.recording_meaning.proofs.Meant.{sequential_meaning, linearizability_meaning}
use Rattle.judging.specs.declared.answer.Verdict.TheVariants.{Invalid}
use Rattle.judging.specs.Answers.{without_order, told_of, judged_of, judge_with}
use Rattle.traces.specs.Traces.{Expectation, Outcome, expected, found, AllHold, trace_10, covers, expect, traces}
use Rattle.traces.specs.Later.{all_ignored}

module _ (M : Model) where
  abbrev ten : Inputs → Expectation
  ten later = expect M (trace_10 later) covers Invalid [] 0

  -- the tester of trace 10 before any later input
  abbrev broken : M.Tester
  broken = feed M (M.new (trace_10 []).start) (trace_10 []).inputs

  -- Trace 10 holds with any later inputs if it holds with none.
  ten_holds : Means M → M.Lengths broken → M.shaped broken ≡ true → (M.history broken).valid ≡ false → found (ten []) ≡ expected (ten [])
      → (later : Inputs) → found (ten later) ≡ expected (ten later)
  ten_holds W sized shaped off h later =
      let i = all_ignored M W broken sized shaped off later in
      rw (i.0, i.1) (ap (λ (o : Outcome). record { numbers = o.numbers ++ replicate (length later) 1; len = o.len; answer = o.answer }) h)

-- The one claim over the list.
pub all_hold : (later : Inputs) → AllHold (traces later)
unfolding zigzag eq_z maybe_coded same_coded register_answer register_after register_ret_coded writes write_answer once_answer once_after once_ret_coded stack_answer stack_after
    stack_ret_coded depth_check low_check held_values ret_coded answers right after same_ret refusal_number family_of op_family ret_family family_number family_check op_belongs ret_belongs start_check shape_check size_check in_order new_register new_once new_stack state_of fresh is_pending flying_by
    flying_from find_flying done_by count_done notable all_below outcome_fits operation_fits operations_fit none_of flying_last counts_right shape_of notes_fit
    notes_fit_from notes_in reason_number number_of breaks valid_after begun_of invoke_of return_of size_of new_sequential sequential_invoke sequential_return held_by
    new_linearizability notes_with linearizability_invoke linearizability_return rows_of notes_of without_order told_of judged_of judge_with
all_hold later =
    rw (
      ten_holds sequential_model sequential_meaning (record { places = refl; counters = refl }) refl refl refl later,
      ten_holds linearizability_model linearizability_meaning (record { places = refl; counters = refl }, refl) refl refl refl later,
    ) refl
