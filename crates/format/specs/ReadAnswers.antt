-- How the code's answers say what is read.
use Rattle.std.specs.Prelude.{Result, Ok, Err, pos}
use Rattle.history.specs.Events.{Event, invoked, returned}
use Rattle.families.specs.Families.{families}
use Rattle.families.specs.Objects.{new_register}
use Rattle.families.specs.declared.event.Event.{Event as CEvent}
use Rattle.families.specs.declared.event.Event.TheVariants.{Invoked, Returned}
use Rattle.families.specs.declared.Kind.{Kind}
use Rattle.families.specs.declared.Object.{Object}
use Rattle.format.specs.declared.header.Unread.{Unread}
use Rattle.numbers.specs.declared.Got.{Got}
use Rattle.numbers.specs.declared.refusal.Refusal.{Refusal}
use Rattle.numbers.specs.Reader.{Read, got, refused, Reader, give, ◌then◌}
use Rattle.format.specs.Format.{event}

-- an event as the code has it, and back

abbrev pub said : Event families → CEvent
said (invoked t op) = Invoked t op
said (returned t ret) = Returned t ret

abbrev pub heard : CEvent → Event families
heard (Invoked t op) = invoked t op
heard (Returned t ret) = returned t ret

abbrev pub event_said : Kind → Reader CEvent
event_said k = event k then λ v. give (said v)

abbrev pub as_event : Read (Event families) → Result (Got CEvent) Refusal
as_event (got v used) = Ok (record { value = said v; next = used })
as_event (refused why) = Err why

-- the default register where the header is refused

abbrev pub unread : Refusal → Unread
unread why = record { why = why; start = new_register (pos 0) }

abbrev pub as_header : Read Object → Result (Got Object) Unread
as_header (got o used) = Ok (record { value = o; next = used })
as_header (refused why) = Err (unread why)
