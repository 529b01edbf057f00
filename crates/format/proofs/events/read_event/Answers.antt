-- The event that is read from the first byte on.
use Rattle.std.proofs.Common.{◌∙◌, sym, ap, rules}
use Rattle.numbers.specs.Reader.{as_read}
use Rattle.format.proofs.Reading.{whole}
use Rattle.format.proofs.EventAnswer.{event_answer}
use Rattle.format.proofs.events.read_event.Goals as goal

pub returns-in_err-value : goal.returns-in_err-value
returns-in_err-value c =
    let answer = event_answer c.args.kind c.args.rest.now in
    let said = whole c.event.ensures c.new-cursor.ensures.bytes c.new-cursor.ensures.at in
    let none = answer ∙ ap as_read (rw c.in_err-value.was at said) in
    search rules

pub returns : goal.returns
returns c =
    let answer = event_answer c.args.kind c.args.rest.now in
    let said = whole c.event.ensures c.new-cursor.ensures.bytes c.new-cursor.ensures.at in
    sym (answer ∙ ap as_read (rw c.in_ok-value.was at said))
