-- A constructor leaves a fresh history in shape, whatever it was given.
use Rattle.std.specs.Prelude.{ℕ, ◌≡◌, refl, List, [], replicate, Result, Ok, Err}
use Rattle.std.proofs.Common.{ap, ◌∙◌, arith}
use Rattle.std.proofs.lemmas.List.{length-replicate}
use Rattle.history.specs.Lists.{get_d_same}
use Rattle.values.specs.Sizes.{threads, capacity}
use Rattle.families.specs.Objects.{zeros, new_stack, stand_in}
use Rattle.families.specs.Refusals.{start_check}
use Rattle.families.specs.RefusalsExactly.{stand_in_starts, stand_in_empty}
use Rattle.families.specs.declared.Object.{Object}
use Rattle.values.specs.declared.refusal.Refusal.{Refusal}
use Rattle.stepping.specs.Record.{fresh, blank_operation}
use Rattle.stepping.specs.Shape.{count_done, operations_fit, flying_last}
use Rattle.stepping.specs.EventSteps.{begun_by, begun_of}
use Rattle.recording_meaning.specs.Reading.{Sized, rows_of}
use Rattle.recording_meaning.specs.Parts.{Parts}

-- the object that the tester starts from

unfoldable pub start_by : Result Unit Refusal → Object → Object
start_by (Ok tt) start = start
start_by (Err r) start = stand_in start.kind

abbrev pub start_of : Object → Object
start_of start = start_by (start_check start.kind) start

pub begun_is : (start : Object) → (begun_of start).history ≡ fresh (start_of start)
unfolding begun_of start_by
begun_is start = go (start_check start.kind)
  where
    go : (c : Result Unit Refusal) → (begun_by c start).history ≡ fresh (start_by c start)
    go (Ok tt) = refl
    go (Err r) = refl

-- the one given, where the tester is new
pub begun_clear : (start : Object) → start_check start.kind ≡ Ok tt → (begun_of start).history ≡ fresh start
unfolding start_by
begun_clear start e = begun_is start ∙ ap (λ (c : Result Unit Refusal). fresh (start_by c start)) e

-- the empty stack, where the start is refused
pub begun_refused : (start : Object) (r : Refusal) → start_check start.kind ≡ Err r → (begun_of start).history ≡ fresh (new_stack zeros 0)
unfolding start_by
begun_refused start r e =
    begun_is start ∙ ap (λ (c : Result Unit Refusal). fresh (start_by c start)) e ∙ ap fresh (stand_in_empty start.kind r e)

pub begun_startable : (start : Object) → start_check (start_of start).kind ≡ Ok tt
unfolding start_by
begun_startable start = go (start_check start.kind) refl
  where
    go : (c : Result Unit Refusal) → start_check start.kind ≡ c → start_check (start_by c start).kind ≡ Ok tt
    go (Ok tt) e = e
    go (Err r) e = stand_in_starts start.kind

pub fresh_sized : (o : Object) → Sized (fresh o)
unfolding fresh
fresh_sized o = record { places = length-replicate capacity blank_operation; counters = length-replicate {A = ℕ} threads 0 }

pub fresh_parts : (o : Object) → start_check o.kind ≡ Ok tt → Parts (fresh o)
unfolding fresh operations_fit flying_last count_done
fresh_parts o e = record { few = omega arith; startable = e; fit = refl; last = refl; counted = λ t m. get_d_same {A = ℕ} threads t 0 }

-- its rows are empty
pub fresh_rows : (needs : ℕ → List ℕ) (o : Object) → rows_of needs (fresh o) ≡ replicate threads []
unfolding fresh rows_of
fresh_rows needs o = refl
