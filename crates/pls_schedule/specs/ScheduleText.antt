-- The text of a schedule: one line for each event.
use Rattle.std.specs.Prelude.{◌≡◌, ◌⊎◌, ℕ, ◌<◌, ◌≤◌, ◌^◌, List, [], ◌∷◌, All, codes, length}
use Rattle.pls_streams.specs.declared.text_error.TextError.{TextError}
use Rattle.pls_streams.specs.declared.text_error.TextError.TheVariants.{Limit, NoMemory}
use Rattle.pls_streams.specs.declared.text_error.Quantity.TheVariants.{Events}
use Rattle.pls_lines.specs.Counted.{counted}
use Rattle.pls_lines.specs.Fault.{NamesFirstFault}
use Rattle.pls_lines.specs.LineKind.{Always, Says, alone}
use Rattle.pls_lines.specs.Lines.{Left, Passes}
use Rattle.pls_lines.specs.ListPart.{IsListPart, list_lines, list_text}
use Rattle.pls_lines.specs.Worded.{numbered}
use Rattle.pls_lines.specs.declared.counted.BareHeading.{BareHeading}
use Rattle.pls_schedule.specs.declared.event.Event.{Event}
use Rattle.pls_schedule.specs.declared.event.Event.TheVariants.{Emit, Arrive, Restart}
use Rattle.pls_configuration.specs.declared.limits.TheConstants.{MAX_LINES}
use Rattle.pls_schedule.specs.declared.schedule_text.ScheduleWord.{ScheduleWord}

-- the first word of an event's line
abbrev pub event_word : Event → List ℕ
event_word (Emit node port) = codes "emit"
event_word (Arrive number) = codes "arrive"
event_word (Restart node) = codes "restart"

-- the numbers behind the first word of an event's line
abbrev pub event_numbers : Event → List ℕ
event_numbers (Emit node port) = node ∷ port ∷ []
event_numbers (Arrive number) = number ∷ []
event_numbers (Restart node) = node ∷ []

-- `emit ID PORT`, `arrive K` or `restart ID`
abbrev pub event_line : Event → List ℕ
event_line event = numbered event_word event_numbers event

-- each number is below 2^32
abbrev pub FitsEvent : Event → Type 0
FitsEvent (Emit node port) = (node < 2 ^ 32) × (port < 2 ^ 32)
FitsEvent (Arrive number) = number < 2 ^ 32
FitsEvent (Restart node) = node < 2 ^ 32

-- the text of a schedule
abbrev pub schedule_text : List Event → List ℕ
schedule_text events = list_text (codes "schedule") event_line events

-- the lines of a schedule
abbrev pub schedule_lines : List Event → List (List ℕ)
schedule_lines events = list_lines (codes "schedule") event_line events

-- a schedule has any events, in any order and number
abbrev pub AreEvents : List Event → Type 0
AreEvents events = All FitsEvent events

-- the line is the heading, which is one word and says nothing more
abbrev pub IsScheduleHeading : List ℕ → Type 0
IsScheduleHeading line = Says {X = BareHeading ScheduleWord} Always (alone (codes "schedule")) line

-- the lines are those of a schedule part
abbrev pub IsSchedulePart : List (List ℕ) → Type 0
IsSchedulePart lines = IsListPart IsScheduleHeading event_line AreEvents lines

-- these are the events that the text says
pub record TellsSchedule (text : List ℕ) (events : List Event) : Type 0 where
  pub fits : All FitsEvent events
  pub is : text ≡ schedule_text events

-- the text of a schedule, the number of its heading line, and how many events it says, 2^64 - 1 at
-- the most
pub record WrittenSchedule : Type 0 where
  pub text : List ℕ
  pub number : ℕ
  pub events : ℕ

-- a text with its heading in this line, and so many events
abbrev pub written_schedule : List ℕ → ℕ → ℕ → WrittenSchedule
written_schedule text number events = record { text = text; number = number; events = events }

-- the text says some events, which are counted
pub record HasEvents (written : WrittenSchedule) : Type 0 where
  pub list : List Event
  pub tells : TellsSchedule written.text list
  pub count : written.events ≡ counted list
  pub within : written.number ≤ 2 ^ 63

-- the reader has passed a schedule part, and kept its text, its place and the number of its events
pub record PassesSchedule (old new : Left) (written : WrittenSchedule) : Type 0 where
  pub list : List Event
  pub tells : TellsSchedule written.text list
  pub passed : Passes old new (schedule_lines list)
  pub heading : written.number ≡ old.number
  pub count : written.events ≡ counted list

-- why the events of a text are refused: there are more than the limit, or there was no memory
abbrev pub IsEventsRefusal : List Event → TextError → Type 0
IsEventsRefusal events NoMemory = length events ≤ MAX_LINES
IsEventsRefusal events error = (error ≡ Limit Events) × (MAX_LINES < length events)

-- why a text is refused that is to be one schedule: its first faulty line, or the refusal of the
-- events that it says
abbrev pub IsRefusedSchedule : List ℕ → TextError → Type 0
IsRefusedSchedule text error = NamesFirstFault IsSchedulePart text error
    ⊎ ((events : List Event) × TellsSchedule text events × IsEventsRefusal events error)
