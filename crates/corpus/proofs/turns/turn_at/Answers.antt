-- The event is read whole, and then looked at as the tester's own call would look at it.
use Rattle.std.proofs.Common.{refl, sym, ap, ◌∙◌, true, rules}
use Rattle.stepping.specs.EventSteps.{number_of, valid_after}
use Rattle.stepping.specs.Drawn.{refused_some}
use Rattle.format.specs.Answered.{event_got, event_refused}
use Rattle.corpus.proofs.Turning.{read_rest, turn_unread, turn_refused, turn_taken}
use Rattle.corpus.proofs.turns.turn_at.Goals as goal

pub returns-in-Err : goal.returns-in-Err
unfolding number_of
returns-in-Err c =
    let read = event_got _ (read_rest c.args.kind c.args.file.now c.args.at c.read_event.ensures) c.in_ok-read.was in
    turn_refused _ _ _ _ _ _ read _ c.comes_to-recorded.ensures _ (c.from.ensures ∙ sym (ap number_of c.in-Err.is)) (λ z. refused_some _ (sym c.from.ensures ∙ z)) _ (c.valid_after.ensures ∙ ap (valid_after true) (sym c.in-Err.is))

pub returns-in_err-read : goal.returns-in_err-read
returns-in_err-read c =
    let none = event_refused _ (read_rest c.args.kind c.args.file.now c.args.at c.read_event.ensures) c.in_err-read.was in
    let stop = turn_unread c.args.flying.now c.args.kind c.args.count _ _ none in
    search rules

pub returns-in-Ok : goal.returns-in-Ok
unfolding number_of
returns-in-Ok c =
    let read = event_got _ (read_rest c.args.kind c.args.file.now c.args.at c.read_event.ensures) c.in_ok-read.was in
    turn_taken _ _ _ _ _ _ read _ c.comes_to-recorded.ensures _ refl (ap number_of c.in-Ok.is) _ c.place_for.ensures
