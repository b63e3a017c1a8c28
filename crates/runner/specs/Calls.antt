-- Events of a schedule as calls of a board. Assumes nothing.
use Rattle.std.specs.Prelude.{List, map}
use Rattle.door.specs.declared.call.Call.{Call}
use Rattle.door.specs.declared.call.Call.TheVariants as call
use Rattle.textline.specs.declared.events.Event.{Event}
use Rattle.textline.specs.declared.events.Event.TheVariants.{Read, Write, Leave, Add, Show, Step, Abort, Reuse}

-- the five requests have kinds 1 to 5, and their unused numbers are 0
abbrev pub call_of_event : Event → Call
call_of_event (Read card toggle node) = call.Request card toggle 1 node 0
call_of_event (Write card toggle node) = call.Request card toggle 2 node 0
call_of_event (Leave card toggle) = call.Request card toggle 3 0 0
call_of_event (Add card toggle counter amount) = call.Request card toggle 4 counter amount
call_of_event (Show card toggle counter) = call.Request card toggle 5 counter 0
call_of_event (Step card) = call.Step card
call_of_event (Abort card) = call.Abort card
call_of_event (Reuse card node next prev state spin) =
    call.Reuse card node (record { next = next; prev = prev; state = state; spin = spin })

-- the calls of events in turn
abbrev pub calls_of : List Event → List Call
calls_of es = map call_of_event es
