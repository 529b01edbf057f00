-- What is left of the words goes through from the stage in hand exactly if all of them do from the start.
use Rattle.std.proofs.Common.{refl, sym, ◌∙◌, eqb-true, arith}
use Rattle.std.proofs.lemmas.Bool.{eqb-false}
use Rattle.history.specs.Lists.{not_both}
use Rattle.witness.specs.WordsPlayed.{play_of}
use Rattle.witness.proofs.Going.{short_words, shorter, going_on, going_wrong, going_ended, going_pending}
use Rattle.witness.proofs.replay.replay.Goals as goal
use Rattle.witness.proofs.replay.replay.Goals.{then-is_empty, else-is_empty}

pub loop-place_words-init : goal.loop-place_words-init
unfolding play_of
loop-place_words-init c = refl

pub returns-in_default-place : goal.returns-in_default-place
returns-in_default-place c =
    going_wrong c.args.notes.now c.args.history.now c.loop-place_words.stage c.loop-place_words.rest.now _ _ c.in-Some.ensures.cases
    (sym c.place.ensures ∙ c.in_default-place.is) ∙ c.loop-place_words.invariant

pub loop-place_words-smaller : goal.loop-place_words-smaller
loop-place_words-smaller c =
    shorter c.args.notes.now c.args.history.now c.loop-place_words.stage c.loop-place_words.rest.now _ _ c.in-Some.ensures.cases

pub loop-place_words-preserved : goal.loop-place_words-preserved
loop-place_words-preserved c =
    going_on c.args.notes.now c.args.history.now c.loop-place_words.stage c.loop-place_words.rest.now _ _ c.in-Some.ensures.cases
    c.in-Some-place.next (sym c.place.ensures ∙ c.in-Some-place.is) ∙ c.loop-place_words.invariant

pub returns-then-stage : goal.returns-then-stage
returns-then-stage c =
    elim c.if-is_empty.branch [
      | then-is_empty w ↦ going_ended c.args.notes.now c.args.history.now c.loop-place_words.stage c.loop-place_words.rest.now (eqb-true _ _ (sym c.is_empty.ensures ∙ w.if-is_empty.true))
          (sym w.value-is ∙ c.if-stage.true) c.reaches.result c.reaches.ensures ∙ c.loop-place_words.invariant
      | else-is_empty w ↦ not_both c.if-stage.true (w.value-is ∙ w.if-is_empty.false)
    ]

pub returns-else-stage : goal.returns-else-stage
returns-else-stage c =
    c.if-stage.false
    ∙ elim c.if-is_empty.branch [
      | then-is_empty w ↦ going_pending c.args.notes.now c.args.history.now c.loop-place_words.stage c.loop-place_words.rest.now (eqb-true _ _ (sym c.is_empty.ensures ∙ w.if-is_empty.true))
          (sym w.value-is ∙ c.if-stage.false) ∙ c.loop-place_words.invariant
      | else-is_empty w ↦ short_words c.args.notes.now c.args.history.now c.loop-place_words.stage c.loop-place_words.rest.now (omega (arith, eqb-false _ _ (sym c.is_empty.ensures ∙ w.if-is_empty.false)))
          c.in_default.ensures.cases ∙ c.loop-place_words.invariant
    ]
