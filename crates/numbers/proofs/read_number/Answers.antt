-- What is left to read from byte i on, above what is summed up so far, says the same number as the whole.
use Rattle.std.proofs.Common.{refl, sym, ap, ◌∙◌, arith, drop_of_length-le}
use Rattle.numbers.specs.Number.{number_from, number}
use Rattle.numbers.specs.Reader.{as_read}
use Rattle.numbers.specs.Groups.{group_fits, goes_on, sum_lt}
use Rattle.numbers.proofs.Groups.{read_big, read_last, read_more}
use Rattle.numbers.proofs.read_number.Goals as goal

pub loop-i-init : goal.loop-i-init
unfolding number
loop-i-init c = record { group = omega arith; below = omega arith; rest = refl }

pub returns-then-too_big : goal.returns-then-too_big
returns-then-too_big c =
    let l = c.loop-i in
    let big = read_big c.args.bytes.now l.i l.value c.loop-i-test.true (sym c.too_big.ensures ∙ c.if-too_big.true) in
    ap as_read (sym big ∙ l.invariant.rest)

pub join-value-requires : goal.join-value-requires
join-value-requires c =
    let l = c.loop-i in
    let fits = group_fits l.i _ l.value l.invariant.group (sym c.too_big.ensures ∙ c.if-too_big.false) l.invariant.below in
    (l.invariant.below, rw c.group.ensures (omega arith), l.invariant.group)

pub returns-then-b-lt128 : goal.returns-then-b-lt128
returns-then-b-lt128 c =
    let l = c.loop-i in
    let last = read_last c.args.bytes.now l.i l.value c.loop-i-test.true (sym c.too_big.ensures ∙ c.if-too_big.false) c.if-b-lt128.true in
    rw (c.join-value.ensures, c.group.ensures) (ap as_read (sym last ∙ l.invariant.rest))

pub loop-i-preserved : goal.loop-i-preserved
loop-i-preserved c =
    let l = c.loop-i in
    let t = sym c.too_big.ensures ∙ c.if-too_big.false in
    let more = read_more c.args.bytes.now l.i l.value c.loop-i-test.true t c.if-b-lt128.false in
    rw (c.join-value.ensures, c.group.ensures)
    (record {
      group = goes_on l.i _ l.invariant.group t c.if-b-lt128.false;
      below = sum_lt l.value _ l.i l.invariant.below (omega arith);
      rest = sym more ∙ l.invariant.rest;
    })

pub returns : goal.returns
unfolding number_from
returns c = ap as_read (rw (drop_of_length-le c.args.bytes.now c.loop-i-test.false) at c.loop-i.invariant.rest)
