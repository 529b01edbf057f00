-- The length is judged before the opening, and both before what follows.
use Rattle.std.specs.Prelude.{Result, Ok, IsErrAnd}
use Rattle.std.proofs.Common.{◌≡◌, sym, ap, ◌∙◌, Err, lt-ltb, le-ltb}
use Rattle.families.specs.declared.Object.{Object}
use Rattle.numbers.specs.declared.Got.{Got}
use Rattle.numbers.specs.declared.refusal.Refusal.{Refusal}
use Rattle.format.specs.declared.header.Unread.{Unread}
use Rattle.format.specs.ReadAnswers.{unread, as_header}
use Rattle.format.specs.Format.{header}
use Rattle.format.specs.SameBytes.{said_opens}
use Rattle.format.proofs.header.read_header.Goals as goal

-- what `?` hands on
handed : {why : Refusal} (r : Result (Got Object) Unread) → IsErrAnd r (λ u. u ≡ unread why) → r ≡ Err (unread why)
handed (Ok o) e = absurd e
handed (Err u) e = ap Err e

pub returns-then-long : goal.returns-then-long
unfolding header
returns-then-long c = simp (lt-ltb _ _ c.if-long.true, c.from.ensures)

pub returns-then-not-opened : goal.returns-then-not-opened
unfolding header
returns-then-not-opened c =
    let opened = said_opens c.args.file.now c.starts_with-opened.result c.starts_with-opened.ensures.value in
    simp (le-ltb _ _ c.if-long.false, sym opened ∙ c.if-not-opened.true, c.from-then-not-opened.ensures)

pub returns-in_err-value : goal.returns-in_err-value
unfolding header
returns-in_err-value c =
    let opened = said_opens c.args.file.now c.starts_with-opened.result c.starts_with-opened.ensures.value in
    let said = rw (c.new-cursor.ensures.bytes, c.new-cursor.ensures.at, c.in_err-value.was) at c.start.ensures.said in
    simp (le-ltb _ _ c.if-long.false, sym opened ∙ c.if-not-opened.false) (handed _ c.from_residual.ensures.1 ∙ ap as_header (sym said))

pub returns : goal.returns
unfolding header
returns c =
    let opened = said_opens c.args.file.now c.starts_with-opened.result c.starts_with-opened.ensures.value in
    let said = rw (c.new-cursor.ensures.bytes, c.new-cursor.ensures.at, c.in_ok-value.was) at c.start.ensures.said in
    simp (le-ltb _ _ c.if-long.false, sym opened ∙ c.if-not-opened.false) (ap as_header (sym said))
