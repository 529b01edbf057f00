-- Each number is that of what its start came to.
use Rattle.std.proofs.Common.{refl, ◌∙◌}
use Rattle.stepping.specs.Drawn.{made_number_is}
use Rattle.testers.specs.PairedCalls.{new_of}
use Rattle.testers.proofs.Testers.new.Goals as goal

pub returns : goal.returns
unfolding new_of
returns c =
    c.joined.ensures
    ∙ rw (
      made_number_is c.new-first.result.made _ c.number-a.ensures,
      made_number_is c.new-second.result.made _ c.number-b.ensures,
      c.new-first.ensures,
      c.new-second.ensures,
    ) refl
