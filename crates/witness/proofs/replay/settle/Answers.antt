use Rattle.std.proofs.Common.{refl, sym, ◌∙◌}
use Rattle.witness.specs.WordsPlayed.{settle_of}
use Rattle.witness.proofs.replay.settle.Goals as goal
use Rattle.witness.proofs.replay.settle.Goals.{then-said_yes, else-said_yes}

pub returns-in-None : goal.returns-in-None
unfolding settle_of
returns-in-None c = simp (c.then_some.ensures, c.answered.ensures, ← c.invoke-invoked.ensures, c.in-None.is)

pub returns-after-said_yes : goal.returns-after-said_yes
unfolding settle_of
returns-after-said_yes c =
    elim c.if-said_yes.branch [
      | then-said_yes w ↦ simp (c.then_some-in-Some.ensures, w.right-is, w.describes-right.ensures, ← c.is_valid_step-stepped.ensures, sym w.if-said_yes.ensures, c.in-Some.is) refl
      | else-said_yes w ↦ simp (c.then_some-in-Some.ensures, w.right-is ∙ w.if-said_yes.false, ← c.is_valid_step-stepped.ensures, sym w.if-said_yes.ensures, c.in-Some.is) refl
    ]
