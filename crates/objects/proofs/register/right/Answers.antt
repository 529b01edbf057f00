-- The derived equality says whether two returns have the same numbers.
use Rattle.std.proofs.Common.{◌∙◌}
use Rattle.values.specs.Bits.{back}
use Rattle.objects.specs.RegisterTells.{register_ret_same}
use Rattle.objects.proofs.register.right.Goals as goal

pub returns : goal.returns
returns c = c.eq.ensures ∙ register_ret_same c.answer.result c.args.ret ∙ rw (c.answer.ensures, back c.args.value c.ranges.value.sfits)
