-- The derived equality says whether two returns have the same numbers.
use Rattle.std.proofs.Common.{◌∙◌}
use Rattle.objects.specs.Stack.{storage_answer}
use Rattle.objects.specs.StackTells.{stack_ret_same}
use Rattle.objects.specs.declared.vec.VecRet.TheVariants.{PushOk, PopOk, LenOk}
use Rattle.objects.proofs.vec.right.Goals as goal

pub returns-in-Push : goal.returns-in-Push
unfolding storage_answer
returns-in-Push c = c.eq.ensures ∙ stack_ret_same PushOk c.args.ret ∙ simp (c.in-Push.is)

pub returns-in-Pop : goal.returns-in-Pop
unfolding storage_answer
returns-in-Pop c = c.eq-in-Pop.ensures ∙ stack_ret_same (PopOk c.top_of.result) c.args.ret ∙ simp (c.in-Pop.is, c.top_of.ensures)

pub returns-in-Len : goal.returns-in-Len
unfolding storage_answer
returns-in-Len c = c.eq-in-Len.ensures ∙ stack_ret_same (LenOk c.args.depth) c.args.ret ∙ simp (c.in-Len.is)
