-- Each operation takes the next slot of its thread.
use Rattle.std.proofs.Common.{◌*◌, refl, replicate, arith}
use Rattle.values.specs.Sizes.{threads, capacity}
use Rattle.recording_meaning.specs.Reading.{Sized}
use Rattle.recording_meaning.specs.ShapeExactly.{shape_exactly}
use Rattle.judging.proofs.Indexing.{built_start, k_few, slot_fits, built_more}
use Rattle.judging.proofs.index.Index.of.Goals as goal

pub loop-i-init : goal.loop-i-init
loop-i-init c =
    let h = c.args.history.now in
    let z : Sized h = record { places = c.requires.sized.0; counters = c.requires.sized.1 } in
    built_start h (replicate (threads * capacity) 0) ((shape_exactly h z).1 c.requires.in_shape) refl

pub bounds-slot-own : goal.bounds-slot-own
bounds-slot-own c = slot_fits c.loop-i.invariant c.loop-i-test.true

pub overflow_add-started : goal.overflow_add-started
overflow_add-started c = omega (arith, k_few c.loop-i.invariant c.loop-i-test.true)

pub loop-i-preserved : goal.loop-i-preserved
loop-i-preserved c = built_more c.loop-i.invariant c.loop-i-test.true
