-- An event that is taken has a thread and a place, where its change is stored; one that is refused changes validity at most.
use Rattle.std.proofs.Common.{arith}
use Rattle.recording.proofs.Storing.{out, place_fits, thread_fits, stored, kept}
use Rattle.recording.proofs.consistency_tester.record_event.Goals as goal

pub returns-in_default : goal.returns-in_default
returns-in_default c = out c.args.noted c.args.history c.args.event c.in_default.ensures

pub offset_bounds-history-at : goal.offset_bounds-history-at
offset_bounds-history-at c = omega (arith, place_fits c.args.noted c.args.history c.args.event c.in-Some.ensures c.comes_to-recorded.ensures c.is_ok.ensures.value c.place_for-at.ensures c.if-is_ok.true)

pub bounds-history-at : goal.bounds-history-at
bounds-history-at c = place_fits c.args.noted c.args.history c.args.event c.in-Some.ensures c.comes_to-recorded.ensures c.is_ok.ensures.value c.place_for-at.ensures c.if-is_ok.true

pub bounds-history-t : goal.bounds-history-t
bounds-history-t c = thread_fits c.args.noted c.args.history c.args.event c.in-Some.ensures c.comes_to-recorded.ensures c.is_ok.ensures.value c.thread_of-t.ensures c.if-is_ok.true

pub offset_bounds-history-at-then-is_ok : goal.offset_bounds-history-at-then-is_ok
offset_bounds-history-at-then-is_ok c = omega (arith, place_fits c.args.noted c.args.history c.args.event c.in-Some.ensures c.comes_to-recorded.ensures c.is_ok.ensures.value c.place_for-at.ensures c.if-is_ok.true)

pub bounds-history-at-then-is_ok : goal.bounds-history-at-then-is_ok
bounds-history-at-then-is_ok c = place_fits c.args.noted c.args.history c.args.event c.in-Some.ensures c.comes_to-recorded.ensures c.is_ok.ensures.value c.place_for-at.ensures c.if-is_ok.true

pub bounds-history-t-then-is_ok : goal.bounds-history-t-then-is_ok
bounds-history-t-then-is_ok c = thread_fits c.args.noted c.args.history c.args.event c.in-Some.ensures c.comes_to-recorded.ensures c.is_ok.ensures.value c.thread_of-t.ensures c.if-is_ok.true

pub returns-then-is_ok : goal.returns-then-is_ok
returns-then-is_ok c =
    stored c.args.noted c.args.history c.args.event c.in-Some.ensures c.comes_to-recorded.ensures c.is_ok.ensures.value c.if-is_ok.true c.place_for-at.ensures c.thread_of-t.ensures
    c.change_of-change.ensures

pub returns : goal.returns
returns c = kept c.args.noted c.args.history c.args.event c.in-Some.ensures c.comes_to-recorded.ensures c.is_ok.ensures.value c.if-is_ok.false c.valid_after.ensures
