-- Trace 14 of document 01: trace 3 as a file, loaded.
use Rattle.std.specs.Prelude.{◌≡◌, refl, pos}
use Rattle.families.specs.Objects.{new_register}
use Rattle.families.specs.Family.{family_of, op_family, ret_family, family_number}
use Rattle.families.specs.Refusals.{family_check, op_belongs, ret_belongs, start_check, shape_check, size_check}
use Rattle.values.specs.Checks.{in_order}
use Rattle.stepping.specs.Record.{fresh, is_pending, flying_by, flying_from, find_flying}
use Rattle.stepping.specs.Shape.{done_by, count_done, notable, all_below, outcome_fits, operation_fits, operations_fit, none_of, flying_last, counts_right, shape_of, notes_fit, notes_fit_from}
use Rattle.stepping.specs.EventSteps.{number_of as recorded_number, begun_of, invoke_of, return_of}
use Rattle.recording.specs.Testers.{new_sequential, sequential_invoke, sequential_return, new_linearizability, linearizability_invoke, linearizability_return}
use Rattle.shape.specs.Notes.{notes_in, notes_with}
use Rattle.recording_meaning.specs.Models.{Model, sequential_model, linearizability_model}
use Rattle.format.specs.TraceFiles.{trace_3, trace_14, trace_header, trace_spelled}
use Rattle.corpus.specs.Load.{record_events, load, load_of}
use Rattle.corpus.specs.Loaded.{AllRecorded}
use Rattle.corpus.proofs.Files.{whole_loads}

-- 14. Trace 3 as a file.

loads : (M : Model) → AllRecorded M (M.new (new_register (pos 65))) trace_3
    → load_of M trace_14 ≡ load M 0 0 (record_events M (M.new (new_register (pos 65))) trace_3)
loads M all =
    whole_loads M trace_14
    (record { start = new_register (pos 65); first = 7; events = trace_3; head = trace_header; spelled = trace_spelled; recorded = all })

-- Every event draws 0.

all_sequential : AllRecorded sequential_model (sequential_model.new (new_register (pos 65))) trace_3
unfolding new_register new_sequential sequential_invoke sequential_return recorded_number begun_of invoke_of return_of fresh is_pending flying_by flying_from find_flying done_by count_done all_below outcome_fits operation_fits operations_fit none_of flying_last counts_right shape_of family_of op_family ret_family family_number family_check op_belongs ret_belongs start_check shape_check size_check in_order
all_sequential = (refl, (refl, (refl, tt)))

all_linearizability : AllRecorded linearizability_model (linearizability_model.new (new_register (pos 65))) trace_3
unfolding new_register new_linearizability linearizability_invoke linearizability_return notes_with notable notes_fit notes_fit_from notes_in recorded_number begun_of invoke_of return_of fresh is_pending flying_by flying_from find_flying done_by count_done all_below outcome_fits operation_fits operations_fit none_of flying_last counts_right shape_of family_of op_family ret_family family_number family_check op_belongs ret_belongs start_check shape_check size_check in_order
all_linearizability = (refl, (refl, (refl, tt)))

-- It loads without refusal to the tester of trace 3's events.

pub sequential_loads : load_of sequential_model trace_14 ≡ load sequential_model 0 0 (record_events sequential_model (sequential_model.new (new_register (pos 65))) trace_3)
sequential_loads = loads sequential_model all_sequential

pub linearizability_loads : load_of linearizability_model trace_14
    ≡ load linearizability_model 0 0 (record_events linearizability_model (linearizability_model.new (new_register (pos 65))) trace_3)
linearizability_loads = loads linearizability_model all_linearizability
