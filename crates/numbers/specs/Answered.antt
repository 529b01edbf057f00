-- What an answer of the code says was read.
use Rattle.std.specs.Prelude.{◌≡◌, Ok, Err, Result}
use Rattle.numbers.specs.declared.Got.{Got}
use Rattle.numbers.specs.declared.refusal.Refusal.{Refusal}
use Rattle.numbers.specs.Reader.{Read, got, refused, as_read}

module _ {A : Type 0} {r : Result (Got A) Refusal} where
  pub read_got : (x : Read A) {g : Got A} → r ≡ as_read x → r ≡ Ok g → x ≡ got g.value g.next
  read_got (got a used) e h = cc
  read_got (refused why) e h = cc

  pub read_refused : (x : Read A) {why : Refusal} → r ≡ as_read x → r ≡ Err why → x ≡ refused why
  read_refused (got a used) e h = cc
  read_refused (refused w) e h = cc
