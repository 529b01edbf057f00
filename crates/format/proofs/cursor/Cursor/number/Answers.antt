-- The number that opens the bytes from the place on, and the place behind it is inside the bytes.
use Rattle.std.proofs.Common.{refl, arith, rules}
use Rattle.format.proofs.Reading.{number_next, number_none}
use Rattle.format.proofs.cursor.Cursor.number.Goals as goal

pub returns-in_err-read : goal.returns-in_err-read
returns-in_err-read c =
    let none = number_none c.args.self.now c.read_number.ensures c.in_err-read.was in
    search rules

pub overflow_add-self : goal.overflow_add-self
overflow_add-self c =
    let next = number_next c.args.self.now c.read_number.ensures c.in_ok-read.was in
    omega (arith, next.1)

pub invariant_of-self : goal.invariant_of-self
invariant_of-self c = record { inside = (number_next c.args.self.now c.read_number.ensures c.in_ok-read.was).1 }

pub returns : goal.returns
returns c = record { same = refl; said = (number_next c.args.self.now c.read_number.ensures c.in_ok-read.was).0 }
