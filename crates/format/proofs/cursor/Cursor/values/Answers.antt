-- What is left to read from where the loop stands says the same values as the whole: each turn reads one more into its place.
use Rattle.std.proofs.Common.{◌≡◌, refl, arith, rules, w32, to_z, of_z}
use Rattle.std.proofs.lemmas.Int.{to_z-of_z}
use Rattle.values.specs.Coded.{coded}
use Rattle.families.specs.Codes.{start_from}
use Rattle.numbers.specs.Reader.{give}
use Rattle.format.specs.Format.{values}
use Rattle.format.proofs.Reading.{reads_stop, reads_made}
use Rattle.format.proofs.Starting.{left_more, left_refused, left_none}
use Rattle.format.proofs.cursor.Cursor.values.Goals as goal

pub returns-in_err-items : goal.returns-in_err-items
unfolding values
returns-in_err-items c =
    let none = left_refused c.loop-place.items c.loop-place.invariant c.loop-place-test.true c.value.ensures c.in_err-items.was in
    let whole = reads_stop (λ items. give (start_from (coded c.args.number c.args.count 0) items)) none refl in
    search rules

pub loop-place-preserved : goal.loop-place-preserved
loop-place-preserved c =
    let v = c.in_ok-items.field-0 in
    let fits = rw c.in_ok-items.was at c.value.type_inv in
    let bits : to_z w32 (of_z w32 v) ≡ v = search (arith, to_z-of_z) in
    rw bits (left_more c.loop-place.items c.loop-place.invariant c.loop-place-test.true c.value.ensures c.in_ok-items.was)

pub returns : goal.returns
unfolding values
returns c =
    let read = left_none c.loop-place.items c.loop-place.invariant c.loop-place-test.false in
    rw c.start_from.ensures (reads_made (λ items. start_from (coded c.args.number c.args.count 0) items) read refl)
