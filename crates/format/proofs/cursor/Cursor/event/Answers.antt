-- The first number says by its last bit whether an operation or a return follows, and by the rest of which thread.
use Rattle.std.proofs.Common.{◌/◌, refl, Ok, Err, eq-eqb, ne_eqb, rules}
use Rattle.history.specs.Events.{Event, invoked, returned}
use Rattle.families.specs.Families.{families}
use Rattle.numbers.specs.Reader.{give}
use Rattle.format.specs.Format.{operation_of, answer_of, operation, answer, event_of, event}
use Rattle.format.specs.ReadAnswers.{said}
use Rattle.format.specs.Told.{told_of, told}
use Rattle.format.specs.Reads.{Reads}
use Rattle.format.proofs.Reading.{reads_then, reads_stop, reads_made}
use Rattle.format.proofs.cursor.Cursor.event.Goals as goal

pub returns-in_err-head : goal.returns-in_err-head
unfolding event
returns-in_err-head c =
    let none = reads_stop (event_of c.args.kind) c.number.ensures c.in_err-head.was in
    let whole = reads_stop (λ v. give (said v)) none refl in
    search rules

pub returns-in_err-op : goal.returns-in_err-op
unfolding event event_of operation operation_of told told_of
returns-in_err-op c =
    let none : Reads (event_of c.args.kind c.in_ok-head.head) c.number.new.self c.told.new.self (Err c.in_err-op.field-0.0) =
    simp (eq-eqb _ _ c.if-head-eq0.true) (reads_stop (λ op. give (invoked (c.in_ok-head.head / 2) op)) c.told.ensures c.in_err-op.was) in
    let whole = reads_stop (λ v. give (said v)) (reads_then (event_of c.args.kind) c.number.ensures c.in_ok-head.was none) refl in
    search rules

pub returns-in_err-ret : goal.returns-in_err-ret
unfolding event event_of answer answer_of told told_of
returns-in_err-ret c =
    let none : Reads (event_of c.args.kind c.in_ok-head.head) c.number.new.self c.told-else-head-eq0.new.self (Err c.in_err-ret.field-0.0) =
    simp (ne_eqb _ _ c.if-head-eq0.false) (reads_stop (λ ret. give (returned (c.in_ok-head.head / 2) ret)) c.told-else-head-eq0.ensures c.in_err-ret.was) in
    let whole = reads_stop (λ v. give (said v)) (reads_then (event_of c.args.kind) c.number.ensures c.in_ok-head.was none) refl in
    search rules

pub returns-in_ok-op : goal.returns-in_ok-op
unfolding event event_of operation operation_of told told_of
returns-in_ok-op c =
    let head = c.in_ok-head.head in
    let heard : Reads {A = Event families} (event_of c.args.kind head) c.number.new.self c.told.new.self (Ok (invoked (head / 2) c.in_ok-op.op)) =
    simp (eq-eqb _ _ c.if-head-eq0.true) (reads_made (λ op. invoked (head / 2) op) c.told.ensures c.in_ok-op.was) in
    reads_made said (reads_then (event_of c.args.kind) c.number.ensures c.in_ok-head.was heard) refl

pub returns-in_ok-ret : goal.returns-in_ok-ret
unfolding event event_of answer answer_of told told_of
returns-in_ok-ret c =
    let head = c.in_ok-head.head in
    let heard : Reads {A = Event families} (event_of c.args.kind head) c.number.new.self c.told-else-head-eq0.new.self (Ok (returned (head / 2) c.in_ok-ret.ret)) =
    simp (ne_eqb _ _ c.if-head-eq0.false) (reads_made (λ ret. returned (head / 2) ret) c.told-else-head-eq0.ensures c.in_ok-ret.was) in
    reads_made said (reads_then (event_of c.args.kind) c.number.ensures c.in_ok-head.was heard) refl
