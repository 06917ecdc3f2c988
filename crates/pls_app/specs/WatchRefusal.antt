-- Which event of a watch is refused.
use Rattle.std.specs.Prelude.{ℕ, ◌+◌, Bool, false, if◌then◌else◌, List, [], ◌∷◌, ◌++◌, Option, Some, None, flat_map, option_map}
use Rattle.std.specs.Option.{is_none}
use Rattle.pls_streams.specs.declared.refusal_number.TheConstants.{WATCH_EVENT}
use Rattle.pls_streams.specs.declared.text_error.TextError.{TextError}
use Rattle.pls_streams.specs.declared.text_error.TextError.TheVariants.{Sense}
use Rattle.pls_configuration.specs.declared.row.NodeRow.{NodeRow}
use Rattle.pls_configuration.specs.Configuration.{row_of}
use Rattle.pls_schedule.specs.declared.event.Event.{Event as RoundEvent}
use Rattle.pls_watch_part.specs.declared.watch_event.WatchEvent.{WatchEvent}
use Rattle.pls_watch_part.specs.declared.watch_event.WatchLine.{WatchLine}
use Rattle.pls_watch_part.specs.declared.watch_event.WatchLine.TheVariants.{Event, Look}
use Rattle.pls_watch.specs.declared.turn.Turn.{Turn}
use Rattle.pls_watch.specs.declared.turn.Turn.TheVariants.{Plain, Relabel}
use Rattle.pls_watch.specs.Labelled.{turn_of, turns_of}
use Rattle.pls_watch.specs.Versions.{plain_of}
use Rattle.pls_app.specs.ScheduleRefusal.{does_not_apply}

-- the event that a line says, if it says one
abbrev pub event_of : WatchLine → List WatchEvent
event_of (Event event) = event ∷ []
event_of Look = []

-- the events of some lines, in their order
abbrev pub events_of : List WatchLine → List WatchEvent
events_of lines = flat_map event_of lines

-- an event of the round does not apply behind these, or no node has the identity that gets a label
abbrev pub turn_does_not_apply : List NodeRow → List RoundEvent → Turn → Bool
turn_does_not_apply rows before (Plain event) = does_not_apply rows before event
turn_does_not_apply rows before (Relabel node) = is_none (row_of rows node)

-- the event names no node, no port of its node, or no emit before it; a relabel, no node
abbrev pub watch_event_does_not_apply : List NodeRow → List WatchEvent → WatchEvent → Bool
watch_event_does_not_apply rows before event =
    turn_does_not_apply rows (plain_of (turns_of before)) (turn_of event)

-- the line says an event that does not apply
abbrev pub line_does_not_apply : List NodeRow → List WatchEvent → WatchLine → Bool
line_does_not_apply rows before (Event event) = watch_event_does_not_apply rows before event
line_does_not_apply rows before Look = false

-- the number of the first line that says an event which does not apply; the first of these lines
-- has this number, each later one the next, and these events were before them
abbrev pub first_refused_line : List NodeRow → List WatchEvent → ℕ → List WatchLine → Option ℕ
first_refused_line rows before number [] = None
first_refused_line rows before number (line ∷ later) = if line_does_not_apply rows before line
    then Some number else first_refused_line rows (before ++ event_of line) (number + 1) later

-- 41: the first event that does not apply, by its line
abbrev pub watch_lines_refusal : List NodeRow → ℕ → List WatchLine → Option TextError
watch_lines_refusal rows number lines =
    option_map (λ number. Sense WATCH_EVENT number) (first_refused_line rows [] number lines)
