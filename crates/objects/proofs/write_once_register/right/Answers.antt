-- The derived equality says whether two returns have the same numbers.
use Rattle.std.proofs.Common.{◌∙◌}
use Rattle.objects.specs.WriteOnce.{once_answer}
use Rattle.objects.specs.OnceTells.{once_ret_same}
use Rattle.objects.specs.declared.write_once_register.WORegisterRet.TheVariants.{ReadOk}
use Rattle.objects.proofs.write_once_register.right.Goals as goal

pub returns-in-Write : goal.returns-in-Write
returns-in-Write c = c.eq.ensures ∙ once_ret_same c.answer.result c.args.ret ∙ rw c.answer.ensures

pub returns-in-Read : goal.returns-in-Read
unfolding once_answer
returns-in-Read c = c.eq-in-Read.ensures ∙ once_ret_same (ReadOk c.args.stored) c.args.ret ∙ simp (c.in-Read.is)
