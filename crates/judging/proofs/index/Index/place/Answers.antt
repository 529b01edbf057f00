-- A thread has no more operations than the history, and each stands at a place of it.
use Rattle.std.proofs.Common.{arith}
use Rattle.recording_meaning.specs.Parts.{parts_of}
use Rattle.judging.specs.PlacesLaws.{places_few, places_below}
use Rattle.judging.proofs.index.Index.place.Goals as goal

pub bounds-self-thread : goal.bounds-self-thread
bounds-self-thread c =
    let i = c.args.self.now in
    omega (arith, c.requires.0, c.requires.1, places_few i.history.now c.args.thread i.history.now.count, (parts_of i.history.now i.in_shape).few)

pub returns-clause-within : goal.returns-clause-within
returns-clause-within c =
    let i = c.args.self.now in
    omega (
      arith,
      i.at c.args.thread c.args.number c.requires.0 c.requires.1,
      places_below i.history.now c.args.thread i.history.now.count c.args.number c.requires.1,
      (parts_of i.history.now i.in_shape).few,
    )
