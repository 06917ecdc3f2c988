-- An event as two numbers: its kind, and the number of the emit or the identity of the node that it
-- names.
use Rattle.std.specs.Prelude.{ℕ, zero, suc}
use Rattle.pls_schedule.specs.declared.event.Event.{Event}
use Rattle.pls_schedule.specs.declared.event.Event.TheVariants.{Emit, Arrive, Restart}

-- the event that two numbers stand for: kind 0 is an arrival, 1 a restart, and 2 or more an emit
-- through the port of the number 2 below
abbrev pub event_of_kind : ℕ → ℕ → Event
event_of_kind zero number = Arrive number
event_of_kind (suc zero) node = Restart node
event_of_kind (suc (suc port)) node = Emit node port
