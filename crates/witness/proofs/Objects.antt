-- An operation placed on the bare object: it may stand there exactly if the words are those of the return that the abstract object has there,
-- and it leaves what the abstract object leaves.
use Rattle.std.proofs.Common.{ℕ, suc, ◌≡◌, refl, Bool, true, false, not, ◌≢◌, List, length, Option, Some, None, Result, Ok, Err}
use Rattle.history.specs.Lists.{not_both}
use Rattle.history.specs.Recorder.{pending}
use Rattle.history.specs.Space.{gives}
use Rattle.std.proofs.Math.Option.{some}
use Rattle.values.specs.Value.{pick}
use Rattle.values.specs.Sizes.{room}
use Rattle.families.specs.Families.{families, right}
use Rattle.families.specs.Refusals.{op_belongs}
use Rattle.families.specs.declared.Object.{Object}
use Rattle.families.specs.declared.Op.{Op}
use Rattle.semantics.specs.Calls.{left_by, step_of}
use Rattle.semantics.specs.Invoking.{holds}
use Rattle.semantics.specs.Roomy.{RoomFor, invoke_returns, invoke_left, step_exactly, step_left}
use Rattle.recording_meaning.specs.Reading.{return_in}
use Rattle.witness.specs.Words.{words_of}
use Rattle.witness.specs.Checking.{same_words, told}
use Rattle.witness.specs.WordsPlayed.{answered_of, said_yes, settled, settle_of}
use Rattle.values.specs.declared.refusal.Refusal.{Refusal}
use Rattle.families.specs.declared.Ret.{Ret}

unsaid : (said : Result Bool Refusal) → said ≢ Ok true → said_yes said ≡ false
unfolding said_yes
unsaid (Ok true) f = absurd (f refl)
unsaid (Ok false) f = refl
unsaid (Err r) f = refl

module _ (o : Object) (op : Op) (n : ℕ) (full : length o.items ≡ room) (own : op_belongs o.kind op ≡ Ok tt) (roomy : RoomFor o (suc n)) where
  -- what placing comes to
  pub settles : (outcome : Option Ret) (ws : List ℕ)
      → settle_of o op outcome ws
      ≡ settled (told (gives families (holds o) op (return_in outcome)) ws) (not (pending families (return_in outcome))) (left_by o op)
  unfolding settle_of answered_of said_yes
  settles None ws = rw (invoke_returns o op n full own roomy, invoke_left o op n full own roomy)
  settles (Some r) ws = go (right (holds o) op r) refl
    where
      go : (b : Bool) → right (holds o) op r ≡ b
          → settled (pick (said_yes (step_of o op r).said) (same_words (words_of r) ws) false) true (step_of o op r).object
          ≡ settled (told (gives families (holds o) op (some r)) ws) true (left_by o op)
      go true e =
          let y : (step_of o op r).said ≡ (Ok true) = (step_exactly o op n full own roomy r).1 e in
          rw (y, e, step_left o op n full own roomy r y)
      go false e =
          let u : said_yes (step_of o op r).said ≡ false = unsaid (step_of o op r).said (λ y. not_both ((step_exactly o op n full own roomy r).0 y) e) in
          rw (u, e)
