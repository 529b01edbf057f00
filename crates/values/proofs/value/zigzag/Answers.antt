-- Below zero the number is odd, else even, and both fit 32 bits.
use Rattle.std.proofs.Common.{to_z-of_z}
use Rattle.values.proofs.Zigzag.{below_fits, word_below, word}
use Rattle.values.proofs.value.zigzag.Goals as goal

pub returns-then-v-lt0 : goal.returns-then-v-lt0
returns-then-v-lt0 c =
    let h = rw (to_z-of_z c.ranges.v) at c.if-v-lt0.true in
    rw (to_z-of_z c.ranges.v, to_z-of_z (below_fits c.args.v c.ranges.v h)) (word_below c.args.v h)

pub returns-else-v-lt0 : goal.returns-else-v-lt0
returns-else-v-lt0 c =
    let h = rw (to_z-of_z c.ranges.v) at c.if-v-lt0.false in
    rw (to_z-of_z c.ranges.v) (word c.args.v h)
