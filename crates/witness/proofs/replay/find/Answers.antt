-- What is left of the operations has the one that is looked for, at so many fewer of its thread.
use Rattle.std.proofs.Common.{ℕ, ◌+◌, sym, subst, arith}
use Rattle.witness.proofs.Finding.{Finding, found, find_own, find_other, find_end}
use Rattle.witness.proofs.replay.find.Goals as goal
use Rattle.witness.proofs.replay.find.Goals.{then-o-thread+else-left-eq0, else-o-thread}

pub returns-then-left-eq0 : goal.returns-then-left-eq0
returns-then-left-eq0 c = (
  c.loop-i-test.true,
  found c.args.ops.now c.args.thread c.args.number c.loop-i.left c.loop-i.i c.loop-i.invariant c.loop-i-test.true
      c.if-o-thread.true c.if-left-eq0.true,
)

pub loop-i-preserved : goal.loop-i-preserved
loop-i-preserved c =
    let os = c.args.ops.now in
    let t = c.args.thread in
    let k = c.args.number in
    let i = c.loop-i.i in
    let l = c.loop-i-test.true in
    elim c.if-o-thread.branch [
      | then-o-thread+else-left-eq0 w ↦ subst (λ (n : ℕ). Finding os t k n (i + 1)) (sym w.left-is)
          (find_own os t k c.loop-i.left i c.loop-i.invariant l w.if-o-thread.true w.if-left-eq0.false)
      | else-o-thread w ↦ subst (λ (n : ℕ). Finding os t k n (i + 1)) (sym w.left-is)
          (find_other os t k c.loop-i.left i c.loop-i.invariant l w.if-o-thread.false)
    ]

pub returns : goal.returns
returns c = find_end c.args.ops.now c.args.thread c.args.number c.loop-i.left c.loop-i.i c.loop-i.invariant (omega arith)
