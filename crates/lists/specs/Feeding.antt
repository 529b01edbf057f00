-- What both testers answer to an event.
use Rattle.testers.specs.PairedCalls.{invoke_of, return_of, invret_of}
use Rattle.testers.specs.declared.Testers.{Testers}
use Rattle.testers.specs.declared.Answers.{Answers}
use Rattle.lists.specs.declared.events.Event.{Event}
use Rattle.lists.specs.declared.events.Event.TheVariants.{Invoke, Return, Both}

unfoldable pub fed_to : Testers → Event → Answers
fed_to testers (Invoke thread op) = invoke_of testers thread op
fed_to testers (Return thread ret) = return_of testers thread ret
fed_to testers (Both thread op ret) = invret_of testers thread op ret
