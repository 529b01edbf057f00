-- Each turn records the event that the file has next as the tester's own call would.
use Rattle.std.proofs.Common.{ap, arith}
use Rattle.corpus.specs.LoadAnswers.{as_linearizability}
use Rattle.corpus.proofs.Loop.{feeding_new, feeding_ended, feeding_stopped, taken_further, taken_fits, feeding_taken}
use Rattle.corpus.proofs.feeding.feed.Goals as goal

pub loop-at-init : goal.loop-at-init
loop-at-init c = feeding_new c.args.file.now c.args.first _ c.requires.0

pub overflow_cast-result : goal.overflow_cast-result
overflow_cast-result c = omega (arith, c.requires.1, c.loop-at-test.true)

pub returns-in-Err : goal.returns-in-Err
returns-in-Err c = ap as_linearizability (feeding_stopped c.loop-at.invariant c.loop-at-test.true c.turn_at.ensures c.in-Err.is)

pub offset_bounds-history-place : goal.offset_bounds-history-place
offset_bounds-history-place c =
    let fits = taken_fits c.loop-at.invariant c.loop-at-test.true c.turn_at.ensures c.in-Ok.is in
    omega (arith, fits.1)

pub bounds-history-place : goal.bounds-history-place
bounds-history-place c = (taken_fits c.loop-at.invariant c.loop-at-test.true c.turn_at.ensures c.in-Ok.is).1

pub bounds-done-t : goal.bounds-done-t
bounds-done-t c =
    let fits = taken_fits c.loop-at.invariant c.loop-at-test.true c.turn_at.ensures c.in-Ok.is in
    omega (arith, fits.0, c.thread_of-t.ensures)

pub offset_bounds-history-place-in-Ok : goal.offset_bounds-history-place-in-Ok
offset_bounds-history-place-in-Ok c =
    let fits = taken_fits c.loop-at.invariant c.loop-at-test.true c.turn_at.ensures c.in-Ok.is in
    omega (arith, fits.1)

pub bounds-history-place-in-Ok : goal.bounds-history-place-in-Ok
bounds-history-place-in-Ok c = (taken_fits c.loop-at.invariant c.loop-at-test.true c.turn_at.ensures c.in-Ok.is).1

pub bounds-history-t : goal.bounds-history-t
bounds-history-t c =
    let fits = taken_fits c.loop-at.invariant c.loop-at-test.true c.turn_at.ensures c.in-Ok.is in
    omega (arith, fits.0, c.thread_of-t.ensures)

pub bounds-flying-t : goal.bounds-flying-t
bounds-flying-t c =
    let fits = taken_fits c.loop-at.invariant c.loop-at-test.true c.turn_at.ensures c.in-Ok.is in
    omega (arith, fits.0, c.thread_of-t.ensures)

pub overflow_add-at : goal.overflow_add-at
overflow_add-at c =
    let end = taken_further c.loop-at.invariant c.loop-at-test.true c.turn_at.ensures c.in-Ok.is in
    omega (arith, end, c.requires.1)

pub loop-at-smaller : goal.loop-at-smaller
loop-at-smaller c =
    let end = taken_further c.loop-at.invariant c.loop-at-test.true c.turn_at.ensures c.in-Ok.is in
    omega (arith, end)

pub loop-at-preserved : goal.loop-at-preserved
loop-at-preserved c =
    feeding_taken c.loop-at.invariant c.loop-at-test.true c.turn_at.ensures c.in-Ok.is c.thread_of-t.ensures c.change_of-change.ensures
    c.note_change.ensures

pub returns : goal.returns
returns c = ap as_linearizability (feeding_ended c.loop-at.invariant c.loop-at-test.false)
