-- All the small files are read so, by computation.
use Rattle.std.specs.Prelude.{◌≡◌, refl, List, [], ◌∷◌, map, pos}
use Rattle.std.proofs.Common.{◌∙◌, Some}
use Rattle.values.specs.Value.{signed}
use Rattle.values.specs.Coded.{maybe_from}
use Rattle.values.specs.Checks.{in_order}
use Rattle.objects.specs.Register.{register_op_form, register_op_from, register_ret_form, register_ret_from}
use Rattle.objects.specs.WriteOnce.{once_op_form, once_op_from, once_ret_form, once_ret_from}
use Rattle.objects.specs.declared.vec.VecOp.TheVariants.{Pop}
use Rattle.objects.specs.declared.vec.VecRet.TheVariants.{PopOk}
use Rattle.objects.specs.Stack.{stack_answer, stack_op_form, stack_op_from, stack_ret_form, stack_ret_from, depth_check, low_check, held_values}
use Rattle.families.specs.Family.{family_of, op_family, ret_family, family_number}
use Rattle.families.specs.Codes.{op_form, op_from, ret_form, ret_from, start_form, start_from}
use Rattle.families.specs.Refusals.{family_check, op_belongs, ret_belongs, start_check, shape_check, size_check}
use Rattle.families.specs.Objects.{new_register, new_once, new_stack}
use Rattle.families.specs.declared.Op.TheVariants.{Vec as OVec}
use Rattle.families.specs.declared.Ret.TheVariants.{Vec as RVec}
use Rattle.families.specs.Families.{answers}
use Rattle.families.specs.States.{state_of}
use Rattle.stepping.specs.Record.{fresh, is_pending, flying_by, flying_from, find_flying}
use Rattle.stepping.specs.Shape.{done_by, count_done, all_below, outcome_fits, operation_fits, operations_fit, none_of, flying_last, counts_right, shape_of}
use Rattle.stepping.specs.EventSteps.{reason_number, number_of as recorded_number, begun_of, invoke_of, return_of}
use Rattle.recording.specs.Testers.{new_sequential, sequential_invoke, sequential_return}
use Rattle.recording_meaning.specs.Models.{sequential_model, linearizability_model}
use Rattle.numbers.specs.FileRefusals.{number_of}
use Rattle.numbers.specs.Reader.{from, give, refuse, ◌then◌}
use Rattle.numbers.specs.Number.{too_big, number_from, number}
use Rattle.format.specs.Format.{value, single, flagged, maybe, payload, single_start, values_from, values, counted, counted_start, start_by, object, start, same_bytes, opens, header, operation_of, operation, answer_of, answer, event_of, event}
use Rattle.corpus.specs.Load.{load_from, load_of}
use Rattle.corpus.proofs.LoadsAlike.{loads_alike}
use Rattle.corpus_meaning.specs.Reading.{SmallFile, reading_of, AllRead}
use Rattle.corpus_meaning.specs.SmallFiles.{file, small_files}

sequential : AllRead sequential_model small_files
unfolding signed maybe_from in_order register_op_form register_op_from register_ret_form register_ret_from once_op_form once_op_from once_ret_form once_ret_from
    stack_op_form stack_op_from stack_ret_form stack_ret_from depth_check low_check held_values family_of op_family ret_family family_number op_form op_from ret_form
    ret_from start_form start_from family_check op_belongs ret_belongs start_check shape_check size_check new_register new_once new_stack state_of fresh is_pending
    flying_by flying_from find_flying done_by count_done all_below outcome_fits operation_fits operations_fit none_of flying_last counts_right shape_of
    reason_number recorded_number begun_of invoke_of return_of new_sequential sequential_invoke sequential_return number_of from give refuse ◌then◌ too_big
    number_from number value single flagged maybe payload single_start values_from values counted counted_start start_by object start same_bytes opens
    header operation_of operation answer_of answer event_of event load_from load_of
sequential = refl

-- Both testers read alike.
alike : (files : List SmallFile) → map (λ (f : SmallFile). reading_of linearizability_model (load_of linearizability_model f.bytes)) files
    ≡ map (λ (f : SmallFile). reading_of sequential_model (load_of sequential_model f.bytes)) files
alike [] = refl
alike (f ∷ fs) = rw (loads_alike f.bytes, alike fs) refl

-- The one claim over the list, of both models.
pub files_read : AllRead sequential_model small_files × AllRead linearizability_model small_files
files_read = (sequential, alike small_files ∙ sequential)

-- What a Pop sees of a stack that a file begins with: the value that is sent last.
pub last_on_top : answers (reading_of sequential_model (load_of sequential_model (file (0x02 ∷ 0x03 ∷ 0x0A ∷ 0x0D ∷ 0x02 ∷ [])))).holds (OVec Pop) ≡ RVec (PopOk (Some (pos 1)))
unfolding answers stack_answer state_of held_values signed start_form start_from depth_check low_check start_check shape_check size_check in_order new_stack fresh
    begun_of new_sequential from give ◌then◌ too_big number_from number value values_from values counted counted_start start_by object start same_bytes opens
    header load_from load_of
last_on_top = refl
