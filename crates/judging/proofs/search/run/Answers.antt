-- Each turn goes where the machine of the walk goes: placed, turned away, or back over a level.
use Rattle.std.proofs.Common.{refl, sym, arith}
use Rattle.recording_meaning.specs.Reading.{Sized}
use Rattle.judging.proofs.SearchRunning.{running_start, next_small, depth_small, found, exhausted, has, progress_small, deeper, used, turn_early, turn_wrong}
use Rattle.judging.proofs.SearchTurns.{left_enough, turn_placed, back_low, back_some, turn_undone}
use Rattle.judging.proofs.search.run.Goals as goal
use Rattle.judging.proofs.search.run.Goals.{else-allowed-via-then-allowed+else-fits, else-allowed-via-else-allowed}

pub loop-left-init : goal.loop-left-init
loop-left-init c =
    let i = c.args.index.now in
    let h = i.history.now in
    let sized : Sized h = record { places = i.sized.0; counters = i.sized.1 } in
    running_start _ h _ _ _ _ _ _ c.held_of-held.ensures c.completed-left.ensures sized i.sized.2 i.in_shape i.counts c.told-path refl

pub returns-then-left-eq0 : goal.returns-then-left-eq0
returns-then-left-eq0 c = found c.loop-left.invariant c.if-left-eq0.true

pub ready-requires : goal.ready-requires
ready-requires c = next_small c.loop-left.invariant

pub returns-then-attempts-budget : goal.returns-then-attempts-budget
returns-then-attempts-budget c =
    used c.loop-left.invariant c.if-left-eq0.false _ c.in-Some.ensures.1 c.in-Some.ensures.0 c.if-attempts-budget.true

pub place-at-requires : goal.place-at-requires
place-at-requires c = (c.in-Some.ensures.0, has c.loop-left.invariant c.if-left-eq0.false _ c.in-Some.ensures.1 c.in-Some.ensures.0)

pub offset_bounds-levels-depth : goal.offset_bounds-levels-depth
offset_bounds-levels-depth c =
    omega (arith, deeper c.loop-left.invariant c.if-left-eq0.false _ c.in-Some.ensures.1 c.in-Some.ensures.0)

pub bounds-levels-depth : goal.bounds-levels-depth
bounds-levels-depth c = deeper c.loop-left.invariant c.if-left-eq0.false _ c.in-Some.ensures.1 c.in-Some.ensures.0

pub bounds-path-depth : goal.bounds-path-depth
bounds-path-depth c = deeper c.loop-left.invariant c.if-left-eq0.false _ c.in-Some.ensures.1 c.in-Some.ensures.0

pub overflow_add-depth : goal.overflow_add-depth
overflow_add-depth c =
    omega (arith, deeper c.loop-left.invariant c.if-left-eq0.false _ c.in-Some.ensures.1 c.in-Some.ensures.0)

pub overflow_add-progress : goal.overflow_add-progress
overflow_add-progress c =
    omega (arith, progress_small c.loop-left.invariant c.if-left-eq0.false _ c.in-Some.ensures.1 c.in-Some.ensures.0)

pub overflow_sub-left : goal.overflow_sub-left
overflow_sub-left c =
    let enough = left_enough c.loop-left.invariant c.if-left-eq0.false _ c.in-Some.ensures.1 c.in-Some.ensures.0 _ c.place-at.ensures.place in
    omega (arith, enough, c.counted-left.ensures.0)

pub loop-left-preserved-then-fits : goal.loop-left-preserved-then-fits
loop-left-preserved-then-fits c =
    turn_placed c.loop-left.invariant c.if-left-eq0.false _ c.in-Some.ensures.1 c.in-Some.ensures.0 _ c.place-at.ensures.place
    c.if-attempts-budget.false (sym c.if-allowed.ensures) (sym c.if-fits.ensures)
    _ _ _ c.act-acted.ensures.value c.act-acted.ensures.after c.counted-left.ensures.0

pub loop-left-preserved-else-allowed : goal.loop-left-preserved-else-allowed
loop-left-preserved-else-allowed c =
    elim c.else-allowed.branch [
      | else-allowed-via-then-allowed+else-fits w ↦ turn_wrong c.loop-left.invariant c.if-left-eq0.false _ c.in-Some.ensures.1 c.in-Some.ensures.0
          _ c.place-at.ensures.place c.if-attempts-budget.false (sym w.if-allowed.ensures) (sym w.if-fits.ensures)
      | else-allowed-via-else-allowed w ↦ turn_early c.loop-left.invariant c.if-left-eq0.false _ c.in-Some.ensures.1 c.in-Some.ensures.0
          _ c.place-at.ensures.place c.if-attempts-budget.false (sym w.if-allowed.ensures)
    ]

pub returns-then-depth-eq0 : goal.returns-then-depth-eq0
returns-then-depth-eq0 c = exhausted c.loop-left.invariant c.if-left-eq0.false _ c.in_default.ensures (omega arith) c.if-depth-eq0.true

pub offset_bounds-levels-depth-in_default : goal.offset_bounds-levels-depth-in_default
offset_bounds-levels-depth-in_default c = omega (arith, depth_small c.loop-left.invariant)

pub bounds-levels-depth-in_default : goal.bounds-levels-depth-in_default
bounds-levels-depth-in_default c = omega (arith, depth_small c.loop-left.invariant)

pub bounds-path-depth-in_default : goal.bounds-path-depth-in_default
bounds-path-depth-in_default c = omega (arith, depth_small c.loop-left.invariant)

pub bounds-progress-th : goal.bounds-progress-th
bounds-progress-th c = back_low c.loop-left.invariant c.if-depth-eq0.false

pub overflow_sub-progress : goal.overflow_sub-progress
overflow_sub-progress c = omega (arith, back_some c.loop-left.invariant c.if-depth-eq0.false)

pub bounds-progress-th-in_default : goal.bounds-progress-th-in_default
bounds-progress-th-in_default c = back_low c.loop-left.invariant c.if-depth-eq0.false

pub loop-left-preserved : goal.loop-left-preserved
loop-left-preserved c =
    turn_undone c.loop-left.invariant c.if-depth-eq0.false c.if-left-eq0.false _ c.in_default.ensures (omega arith) _ c.take_back.ensures
