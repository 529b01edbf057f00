-- Every fault is shown, by computation.
use Rattle.std.specs.Prelude.{◌+◌, ◌≡◌, refl, Bool, true, false, not, cond, List, [], ◌∷◌, map}
use Rattle.std.proofs.Common.{ap}
use Rattle.values.specs.Sizes.{room}
use Rattle.values.specs.Value.{zigzag}
use Rattle.values.specs.Coded.{same_coded}
use Rattle.objects.specs.Register.{register_answer, register_after, register_ret_coded}
use Rattle.objects.specs.Stack.{stack_ret_coded, depth_check, low_check, stack_room, pushes, pushed, storage_answer, depth_after, items_after}
use Rattle.families.specs.Families.{answers, right, after, same_ret}
use Rattle.families.specs.Codes.{ret_coded}
use Rattle.families.specs.Family.{family_of, op_family, ret_family, family_number}
use Rattle.values.specs.Checks.{number_of as refusal_number, in_order}
use Rattle.families.specs.Refusals.{family_check, op_belongs, ret_belongs, start_check, shape_check, size_check, room_check, took_room, step_room}
use Rattle.families.specs.Placing.{held_of, kind_of, answer_of, right_of, held_after, leaves_of}
use Rattle.families.specs.Objects.{zeros, new_register, new_stack, stand_in}
use Rattle.families.specs.States.{state_of}
use Rattle.stepping.specs.Record.{fresh, is_pending, flying_by, flying_from, find_flying}
use Rattle.stepping.specs.Shape.{shaped_with, done_by, count_done, notable, all_below, outcome_fits, operation_fits, operations_fit, none_of, flying_last, counts_right, shape_of, notes_fit, notes_fit_from}
use Rattle.stepping.specs.EventSteps.{reason_number, number_of, made_number_of, begun_of, invoke_of, return_of, size_of}
use Rattle.recording.specs.Calls.{held_by, in_turn}
use Rattle.recording.specs.Testers.{new_sequential, sequential_invoke, sequential_return, shaped_tester, new_linearizability, linearizability_invoke, linearizability_return}
use Rattle.shape.specs.Notes.{notes_in, notes_with}
use Rattle.judging.specs.Answers.{without_order, told_of, judged_of, judge_with}
use Rattle.recording_meaning.specs.Reading.{rows_of, notes_of}
use Rattle.recording_meaning.specs.Models.{sequential_model, linearizability_model}
use Rattle.recording.specs.declared.linearizability.LinearizabilityTester.{LinearizabilityTester}
use Rattle.recording.specs.declared.sequential_consistency.SequentialConsistencyTester.{SequentialConsistencyTester}
use Rattle.semantics.specs.Calls.{invoke_check, step_check, invoke_of as bare_invoke, step_of, answer_by, left_by}
use Rattle.semantics.specs.Histories.{taken, history_of}
use Rattle.witness.specs.Words.{words_of}
use Rattle.witness.specs.Checking.{same_words, replays, check_with}
use Rattle.faults.specs.Records.{counters, one_note, record_of, starting, filled, asked, returned, noting, flying, overtaken, held}
use Rattle.traces.specs.Faults.{GetsNine, Fault, Outcome, expected, found, without_notes, SequentialToo, Shown, AllShown, BareNine, Full, Constructs}
use Rattle.traces.specs.FaultList.{faults, NineShown}

-- Out of shape is all that the row asks for.

linearizability_nine : (s : LinearizabilityTester) → shaped_tester s ≡ false → GetsNine linearizability_model s
unfolding linearizability_invoke linearizability_return in_turn held_by invoke_of return_of reason_number number_of size_of
    judge_with check_with
linearizability_nine s e = record {
  on_invoke = λ t op. rw e (refl, refl);
  on_return = λ t ret. rw e (refl, refl);
  on_invret = λ t op ret. rw e (refl, refl);
  len = rw e;
  judged = λ budget. rw e;
  checked = λ words. rw e;
}

sequential_nine : (s : SequentialConsistencyTester) → shaped_with true s.history ≡ false → GetsNine sequential_model s
unfolding sequential_invoke sequential_return in_turn held_by invoke_of return_of reason_number number_of size_of judge_with check_with
sequential_nine s e = record {
  on_invoke = λ t op. rw e (refl, refl);
  on_return = λ t ret. rw e (refl, refl);
  on_invret = λ t op ret. rw e (refl, refl);
  len = rw e;
  judged = λ budget. rw e;
  checked = λ words. rw e;
}

-- What is computed of an entry, and what that is to be.

record Facts : Type 0 where
  shaped : Bool
  shaped_too : Bool
  too : Outcome
  beside : Outcome
  beside_too : Outcome

abbrev computed : Fault → Facts
computed x = record {
  shaped = shaped_tester x.fault;
  shaped_too = shaped_with true x.fault.history;
  too = cond x.in_history (expected x) (found x sequential_model (without_notes x.fault));
  beside = found x linearizability_model x.beside;
  beside_too = found x sequential_model (without_notes x.beside);
}

abbrev wanted : Fault → Facts
wanted x = record { shaped = false; shaped_too = not x.in_history; too = expected x; beside = expected x; beside_too = expected x }

shown : (x : Fault) → computed x ≡ wanted x → Shown x
shown x e = record {
  nine = linearizability_nine x.fault (ap (λ (f : Facts). f.shaped) e);
  nine_too = go x.in_history (ap (λ (f : Facts). f.shaped_too) e) (ap (λ (f : Facts). f.too) e);
  beside_is = ap (λ (f : Facts). f.beside) e;
  beside_too = ap (λ (f : Facts). f.beside_too) e;
}
  where
    go : (b : Bool) → shaped_with true x.fault.history ≡ not b
        → cond b (expected x) (found x sequential_model (without_notes x.fault)) ≡ expected x → SequentialToo b x
    go true h o = sequential_nine (without_notes x.fault) h
    go false h o = o

all_shown : (xs : List Fault) → map computed xs ≡ map wanted xs → AllShown xs
all_shown [] e = tt
all_shown (x ∷ xs) e = (shown x (cc), all_shown xs (cc))

testers_shown : AllShown faults
unfolding zigzag same_coded register_answer register_after register_ret_coded depth_check low_check ret_coded answers right after same_ret family_of op_family
    ret_family family_number family_check op_belongs ret_belongs start_check shape_check size_check in_order new_register new_stack state_of is_pending
    flying_by flying_from find_flying done_by count_done notable all_below outcome_fits operation_fits operations_fit none_of flying_last counts_right shape_of
    notes_fit notes_fit_from notes_in notes_with reason_number number_of invoke_of return_of size_of sequential_invoke sequential_return held_by
    linearizability_invoke linearizability_return rows_of notes_of without_order told_of judged_of judge_with in_turn
    words_of same_words replays check_with counters one_note record_of starting filled asked returned noting flying overtaken held
testers_shown = all_shown faults refl

bare_nine : BareNine (new_stack zeros (room + 1))
unfolding refusal_number new_stack bare_invoke step_of history_of invoke_check step_check in_order shape_check depth_check
bare_nine = record { number = refl; invoking = λ op. refl; stepping = λ op ret. refl; walking = λ ts. refl }

bare_full : Full (new_stack zeros room)
unfolding refusal_number new_stack bare_invoke step_of history_of taken invoke_check step_check in_order shape_check depth_check op_belongs ret_belongs
    family_check op_family ret_family family_of family_number
    room_check step_room took_room stack_room pushes pushed held_of answer_by answer_of storage_answer right_of left_by kind_of held_after depth_after leaves_of items_after
    zigzag same_coded stack_ret_coded same_ret ret_coded
bare_full = record { number = refl; push = refl; push_ok = refl; len = refl; len_ok = refl; no_steps = refl }

linearizability_constructs : Constructs linearizability_model
unfolding new_stack new_linearizability begun_of start_check in_order shape_check depth_check size_check low_check stand_in fresh made_number_of refusal_number
linearizability_constructs = record {
  nine = record { number = refl; history = refl };
  eight = record { number = refl; history = refl };
  eight_too = record { number = refl; history = refl };
  made = record { number = refl; history = refl };
}

sequential_constructs : Constructs sequential_model
unfolding new_stack new_sequential begun_of start_check in_order shape_check depth_check size_check low_check stand_in fresh made_number_of refusal_number
sequential_constructs = record {
  nine = record { number = refl; history = refl };
  eight = record { number = refl; history = refl };
  eight_too = record { number = refl; history = refl };
  made = record { number = refl; history = refl };
}

-- The one claim.
pub nine_shown : NineShown
nine_shown = record {
  testers = testers_shown;
  bare = bare_nine;
  full = bare_full;
  linearizability = linearizability_constructs;
  sequential = sequential_constructs;
}
