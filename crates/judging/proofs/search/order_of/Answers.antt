-- Placing the path once more from the start gives each place its return.
use Rattle.std.proofs.Common.{◌≡◌, length, arith}
use Rattle.recording_meaning.specs.Parts.{parts_of}
use Rattle.judging.proofs.Replaying.{replay_start, own_low, has, few_placed, replay_more, replay_end}
use Rattle.judging.proofs.search.order_of.Goals as goal

pub loop-d-init : goal.loop-d-init
loop-d-init c =
    let i = c.args.index.now in
    replay_start i.history.now c.args.path.now (parts_of i.history.now i.in_shape).few c.requires.within c.requires.playable
    _ c.held_of-held.ensures _ c.nobody-order.ensures

pub bounds-progress-own : goal.bounds-progress-own
bounds-progress-own c = own_low c.loop-d.invariant c.loop-d-test.true

pub place-requires : goal.place-requires
place-requires c = (own_low c.loop-d.invariant c.loop-d-test.true, has c.loop-d.invariant c.loop-d-test.true)

pub overflow_add-progress : goal.overflow_add-progress
overflow_add-progress c = omega (arith, few_placed c.loop-d.invariant c.loop-d-test.true)

pub bounds-progress-own-in-loop-d : goal.bounds-progress-own-in-loop-d
bounds-progress-own-in-loop-d c = own_low c.loop-d.invariant c.loop-d-test.true

pub loop-d-preserved : goal.loop-d-preserved
loop-d-preserved c =
    replay_more c.loop-d.invariant c.loop-d-test.true c.place.result c.place.ensures.place c.given-ret.result c.given-ret.ensures
    c.act.result c.act.ensures.value c.act.new.items c.act.ensures.after

pub returns : goal.returns
returns c =
    let e : c.loop-d.d ≡ length c.args.path.now = omega arith in
    replay_end (rw e at c.loop-d.invariant)
