-- The number chooses the form in the family, what has that form is read, and the table says what it means.
use Rattle.std.proofs.Common.{rules}
use Rattle.families.specs.Family.{family_of}
use Rattle.numbers.specs.Reader.{give}
use Rattle.format.specs.Told.{told_of, told}
use Rattle.format.proofs.Reading.{reads_then, reads_stop, reads_made}
use Rattle.format.proofs.cursor.Cursor.told.Goals as goal

pub returns-in_err-coded : goal.returns-in_err-coded
unfolding told told_of
returns-in_err-coded g c =
    let form = g.T.OfFamily.form_of in
    let value = g.T.OfFamily.told_of in
    let coded = rw c.form.ensures at c.payload.ensures in
    let none = reads_stop (λ x. give (value (family_of c.args.kind) x)) coded c.in_err-coded.was in
    let whole = reads_then (told_of form value c.args.kind) c.number.ensures c.in_ok-number.was none in
    search rules

pub returns : goal.returns
unfolding told told_of
returns g c =
    let form = g.T.OfFamily.form_of in
    let value = g.T.OfFamily.told_of in
    let coded = rw c.form.ensures at c.payload.ensures in
    let said = reads_made (value (family_of c.args.kind)) coded c.in_ok-coded.was in
    rw c.told.ensures (reads_then (told_of form value c.args.kind) c.number.ensures c.in_ok-number.was said)
