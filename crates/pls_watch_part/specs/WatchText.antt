-- The text of a watch: one line for each event and for each look.
use Rattle.std.specs.Prelude.{◌≡◌, ℕ, ◌<◌, ◌≤◌, ◌^◌, Bool, true, false, List, [], ◌∷◌, codes, decimal, length, sum_by}
use Rattle.pls_streams.specs.declared.text_error.TextError.{TextError}
use Rattle.pls_streams.specs.Steps.{capped}
use Rattle.pls_lines.specs.Counted.{counted}
use Rattle.pls_lines.specs.LineKind.{Always, Says, alone}
use Rattle.pls_lines.specs.Lines.{Left, Passes}
use Rattle.pls_lines.specs.ListPart.{IsListPart, list_lines, list_text}
use Rattle.pls_lines.specs.Worded.{worded}
use Rattle.pls_lines.specs.declared.counted.BareHeading.{BareHeading}
use Rattle.pls_closing.specs.Closing.{AreClosed, IsLinesRefusal, closing_of}
use Rattle.pls_labelfile.specs.LabelsText.{FitsLabel, hex_word}
use Rattle.pls_schedule.specs.declared.event.Event.{Event as RoundEvent}
use Rattle.pls_schedule.specs.declared.event.Event.TheVariants as Plays
use Rattle.pls_watch_part.specs.declared.watch_event.WatchEvent.{WatchEvent}
use Rattle.pls_watch_part.specs.declared.watch_event.WatchEvent.TheVariants.{Emit, Arrive, Restart, Relabel}
use Rattle.pls_watch_part.specs.declared.watch_event.WatchLine.{WatchLine}
use Rattle.pls_watch_part.specs.declared.watch_event.WatchLine.TheVariants.{Event, Look}
use Rattle.pls_watch_part.specs.declared.watch_words.WatchWord.{WatchWord}

-- an event of a round of messages
abbrev pub watch_event : RoundEvent → WatchEvent
watch_event (Plays.Emit node port) = Emit node port
watch_event (Plays.Arrive number) = Arrive number
watch_event (Plays.Restart node) = Restart node

-- the first word of a line
abbrev pub watch_word : WatchLine → List ℕ
watch_word (Event (Emit node port)) = codes "emit"
watch_word (Event (Arrive number)) = codes "arrive"
watch_word (Event (Restart node)) = codes "restart"
watch_word (Event (Relabel node bits)) = codes "relabel"
watch_word Look = codes "look"

-- the words behind the first word of a line
abbrev pub watch_args : WatchLine → List (List ℕ)
watch_args (Event (Emit node port)) = decimal node ∷ decimal port ∷ []
watch_args (Event (Arrive number)) = decimal number ∷ []
watch_args (Event (Restart node)) = decimal node ∷ []
watch_args (Event (Relabel node bits)) =
    decimal node ∷ decimal (length bits) ∷ hex_word bits ∷ []
watch_args Look = []

-- `emit ID PORT`, `arrive K`, `restart ID`, `relabel ID LEN HEX` or `look`
abbrev pub watch_line : WatchLine → List ℕ
watch_line line = worded watch_word watch_args line

-- each number is below 2^32, and a label has at most 2^28 bits
abbrev pub FitsWatch : WatchLine → Type 0
FitsWatch (Event (Emit node port)) = (node < 2 ^ 32) × (port < 2 ^ 32)
FitsWatch (Event (Arrive number)) = number < 2 ^ 32
FitsWatch (Event (Restart node)) = node < 2 ^ 32
FitsWatch (Event (Relabel node bits)) = FitsLabel (record { id = node; bits = bits })
FitsWatch Look = Unit {0}

-- the line asks for a look
abbrev pub is_look : WatchLine → Bool
is_look (Event event) = false
is_look Look = true

-- how many bits the label has that the line gives
abbrev pub relabel_bits : WatchLine → ℕ
relabel_bits (Event (Emit node port)) = 0
relabel_bits (Event (Arrive number)) = 0
relabel_bits (Event (Restart node)) = 0
relabel_bits (Event (Relabel node bits)) = length bits
relabel_bits Look = 0

-- how many bits the labels have together that the lines give
abbrev pub total_relabel_bits : List WatchLine → ℕ
total_relabel_bits lines = sum_by relabel_bits lines

-- the lines of a watch part: there is one, and the last one asks for a look
abbrev pub AreWatch : List WatchLine → Type 0
AreWatch lines = AreClosed FitsWatch is_look false lines

-- the lines that ask for looks
abbrev pub looks_of : List WatchLine → List WatchLine
looks_of lines = closing_of is_look lines

-- the text of a watch part
abbrev pub watch_text : List WatchLine → List ℕ
watch_text lines = list_text (codes "watch") watch_line lines

-- the lines of a watch part
abbrev pub watch_part_lines : List WatchLine → List (List ℕ)
watch_part_lines lines = list_lines (codes "watch") watch_line lines

-- the line is the heading, which is one word and says nothing more
abbrev pub IsWatchHeading : List ℕ → Type 0
IsWatchHeading line = Says {X = BareHeading WatchWord} Always (alone (codes "watch")) line

-- the lines are those of a watch part
abbrev pub IsWatchPart : List (List ℕ) → Type 0
IsWatchPart lines = IsListPart IsWatchHeading watch_line AreWatch lines

-- these are the events and looks that the text says
pub record TellsWatch (text : List ℕ) (lines : List WatchLine) : Type 0 where
  pub are : AreWatch lines
  pub is : text ≡ watch_text lines

-- the text of a watch part, the number of its heading line, and how many lines, how many looks and
-- how many bits of labels it says, each 2^64 - 1 at the most
pub record WrittenWatch : Type 0 where
  pub text : List ℕ
  pub number : ℕ
  pub events : ℕ
  pub looks : ℕ
  pub bits : ℕ

-- a text with its heading in this line, so many lines, so many looks and so many bits
abbrev pub written_watch : List ℕ → ℕ → ℕ → ℕ → ℕ → WrittenWatch
written_watch text number events looks bits =
    record { text = text; number = number; events = events; looks = looks; bits = bits }

-- the text says some events and looks, which are counted
pub record HasWatch (written : WrittenWatch) : Type 0 where
  pub list : List WatchLine
  pub tells : TellsWatch written.text list
  pub events : written.events ≡ counted list
  pub looks : written.looks ≡ counted (looks_of list)
  pub bits : written.bits ≡ capped (total_relabel_bits list)
  pub within : written.number ≤ 2 ^ 63

-- the reader has passed a watch part, and kept its text, its place and its counts
pub record PassesWatch (old new : Left) (written : WrittenWatch) : Type 0 where
  pub list : List WatchLine
  pub tells : TellsWatch written.text list
  pub passed : Passes old new (watch_part_lines list)
  pub heading : written.number ≡ old.number
  pub events : written.events ≡ counted list
  pub looks : written.looks ≡ counted (looks_of list)
  pub bits : written.bits ≡ capped (total_relabel_bits list)

-- why the lines of a text are refused: there are too many, or there was no memory
abbrev pub IsWatchRefusal : List WatchLine → TextError → Type 0
IsWatchRefusal lines error = IsLinesRefusal (length lines) (length (looks_of lines)) error
