-- Each number is that of what its call came to.
use Rattle.std.proofs.Common.{refl, ◌∙◌}
use Rattle.stepping.specs.Drawn.{number_is}
use Rattle.testers.proofs.recorded.Goals as goal

pub returns : goal.returns
returns c =
    c.joined.ensures
    ∙ rw (number_is c.args.first.recorded _ c.number-a.ensures, number_is c.args.second.recorded _ c.number-b.ensures) refl
