-- The lowest bit tells the sign, and the others the half.
use Rattle.std.proofs.Common.{◌%◌, sym, ◌∙◌, to_z-of_z, eq-eqb, ne_eqb}
use Rattle.std.specs.Int.Bits.{and_mask}
use Rattle.values.specs.Value.{signed}
use Rattle.values.proofs.Signed.{half_pos, half_less, half_fits}
use Rattle.values.proofs.value.signed_of.Goals as goal

pub returns-then-n-eq0 : goal.returns-then-n-eq0
unfolding signed
returns-then-n-eq0 c =
    let n = c.args.n in
    rw (eq-eqb (n % 2) 0 (sym (and_mask n 1) ∙ c.if-n-eq0.true)) (half_pos n c.ranges.n.fits)

pub returns-else-n-eq0 : goal.returns-else-n-eq0
unfolding signed
returns-else-n-eq0 c =
    let n = c.args.n in
    let f = c.ranges.n.fits in
    rw (ne_eqb (n % 2) 0 (λ e. c.if-n-eq0.false (and_mask n 1 ∙ e))) (to_z-of_z (half_fits n f) ∙ half_less n f)
