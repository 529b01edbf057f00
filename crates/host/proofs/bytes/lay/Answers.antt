-- The head is laid over the first bytes and the threads over the next, and those behind keep theirs.
use Rattle.std.proofs.Common.{rules}
use Rattle.host.proofs.Laying.{laid}
use Rattle.host.proofs.bytes.lay.Goals as goal

pub returns : goal.returns
returns c =
    rw (c.copy_from_slice.ensures.after, c.copy_from_slice-2.ensures.after)
    (laid c.args.report c.args.answer.now c.head_of-head.result (search rules) c.head_of-head.ensures)
