-- What an answer of the code says was read.
use Rattle.std.specs.Prelude.{◌≡◌, refl, Ok, Err, Result, pos}
use Rattle.history.specs.Events.{Event, invoked, returned}
use Rattle.families.specs.Families.{families}
use Rattle.families.specs.Objects.{new_register}
use Rattle.families.specs.declared.event.Event.{Event as CEvent}
use Rattle.families.specs.declared.event.Event.TheVariants.{Invoked, Returned}
use Rattle.families.specs.declared.Object.{Object}
use Rattle.format.specs.declared.header.Unread.{Unread}
use Rattle.numbers.specs.declared.Got.{Got}
use Rattle.numbers.specs.declared.refusal.Refusal.{Refusal}
use Rattle.numbers.specs.Reader.{Read, got, refused}
use Rattle.format.specs.ReadAnswers.{heard, as_event, unread, as_header}

module _ {r : Result (Got CEvent) Refusal} where
  pub event_got : (x : Read (Event families)) {e : Got CEvent} → r ≡ as_event x → r ≡ Ok e → x ≡ got (heard e.value) e.next
  event_got (got (invoked t op) n) {e} p h = let q : e.value ≡ Invoked t op = cc in rw q (cc)
  event_got (got (returned t ret) n) {e} p h = let q : e.value ≡ Returned t ret = cc in rw q (cc)
  event_got (refused why) p h = cc

  pub event_refused : (x : Read (Event families)) {why : Refusal} → r ≡ as_event x → r ≡ Err why → x ≡ refused why
  event_refused (got v n) p h = cc
  event_refused (refused w) p h = cc

module _ {r : Result (Got Object) Unread} where
  pub header_got : (x : Read Object) {h : Got Object} → r ≡ as_header x → r ≡ Ok h → x ≡ got h.value h.next
  header_got (got o n) p q = cc
  header_got (refused why) p q = cc

  pub header_refused : (x : Read Object) {u : Unread} → r ≡ as_header x → r ≡ Err u
      → (x ≡ refused u.why) × (u.start ≡ new_register (pos 0))
  header_refused (got o n) p q = cc
  header_refused (refused w) {u} p q = let e : u ≡ unread w = cc in rw e (refl, refl)
