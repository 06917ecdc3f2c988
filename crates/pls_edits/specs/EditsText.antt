-- The text of edits: one line for each edit and for each round.
use Rattle.std.specs.Prelude.{◌≡◌, ℕ, ◌-◌, ◌<◌, ◌≤◌, ◌^◌, Bool, true, false, List, [], ◌∷◌, codes, decimal, length}
use Rattle.pls_streams.specs.declared.text_error.TextError.{TextError}
use Rattle.pls_configuration.specs.declared.limits.TheConstants.{MAX_NUM}
use Rattle.pls_lines.specs.Counted.{counted}
use Rattle.pls_lines.specs.LineKind.{Always, Says, alone}
use Rattle.pls_lines.specs.Lines.{Left, Passes}
use Rattle.pls_lines.specs.ListPart.{IsListPart, list_lines, list_text}
use Rattle.pls_lines.specs.Worded.{worded}
use Rattle.pls_lines.specs.declared.counted.BareHeading.{BareHeading}
use Rattle.pls_closing.specs.Closing.{AreClosed, AreFew as AreFewLines, IsLinesRefusal, closing_of}
use Rattle.pls_netfile.specs.NetworkLine.{FitsNode}
use Rattle.pls_netfile.specs.NetworkText.{state_words}
use Rattle.pls_labelfile.specs.LabelsText.{FitsLabel, hex_word}
use Rattle.pls_edits.specs.declared.edit.Edit.TheVariants.{State, Weight, Link, Unlink, Join, Leave, Label}
use Rattle.pls_edits.specs.declared.edit_line.EditLine.{EditLine}
use Rattle.pls_edits.specs.declared.edit_line.EditLine.TheVariants.{Edit as Makes, Round}
use Rattle.pls_edits.specs.declared.edit_words.EditsWord.{EditsWord}

-- the first word of a line
abbrev pub edit_word : EditLine → List ℕ
edit_word (Makes (State id state)) = codes "state"
edit_word (Makes (Weight a b weight)) = codes "weight"
edit_word (Makes (Link a b weight)) = codes "link"
edit_word (Makes (Unlink a b)) = codes "unlink"
edit_word (Makes (Join id mark num)) = codes "join"
edit_word (Makes (Leave id)) = codes "leave"
edit_word (Makes (Label id bits)) = codes "label"
edit_word Round = codes "round"

-- the words behind the first word of a line
abbrev pub edit_args : EditLine → List (List ℕ)
edit_args (Makes (State id state)) = state_words id state
edit_args (Makes (Weight a b weight)) = decimal a ∷ decimal b ∷ decimal weight ∷ []
edit_args (Makes (Link a b weight)) = decimal a ∷ decimal b ∷ decimal weight ∷ []
edit_args (Makes (Unlink a b)) = decimal a ∷ decimal b ∷ []
edit_args (Makes (Join id mark num)) = decimal id ∷ decimal mark ∷ decimal num ∷ []
edit_args (Makes (Leave id)) = decimal id ∷ []
edit_args (Makes (Label id bits)) = decimal id ∷ decimal (length bits) ∷ hex_word bits ∷ []
edit_args Round = []

-- `state ID UP MARK NUM`, `weight A B W`, `link A B W`, `unlink A B`, `join ID MARK NUM`,
-- `leave ID`, `label ID LEN HEX` or `round`
abbrev pub edit_line : EditLine → List ℕ
edit_line line = worded edit_word edit_args line

-- three numbers, the first two below 2^32 and the third at most this
pub record FitThree (a b c most : ℕ) : Type 0 where
  pub first : a < 2 ^ 32
  pub second : b < 2 ^ 32
  pub third : c ≤ most

-- each number is in its range: `num` at most 2^62, a label at most 2^28 bits, all others below 2^32
abbrev pub FitsEdit : EditLine → Type 0
FitsEdit (Makes (State id state)) = FitsNode id state
FitsEdit (Makes (Weight a b weight)) = FitThree a b weight (2 ^ 32 - 1)
FitsEdit (Makes (Link a b weight)) = FitThree a b weight (2 ^ 32 - 1)
FitsEdit (Makes (Unlink a b)) = (a < 2 ^ 32) × (b < 2 ^ 32)
FitsEdit (Makes (Join id mark num)) = FitThree id mark num MAX_NUM
FitsEdit (Makes (Leave id)) = id < 2 ^ 32
FitsEdit (Makes (Label id bits)) = FitsLabel (record { id = id; bits = bits })
FitsEdit Round = Unit {0}

-- the line asks for a round
abbrev pub is_round : EditLine → Bool
is_round (Makes edit) = false
is_round Round = true

-- the lines of an edits part: the last one, if there is one, asks for a round
abbrev pub AreEdits : List EditLine → Type 0
AreEdits lines = AreClosed FitsEdit is_round true lines

-- the lines that ask for rounds
abbrev pub rounds_of : List EditLine → List EditLine
rounds_of lines = closing_of is_round lines

-- the text of an edits part
abbrev pub edits_text : List EditLine → List ℕ
edits_text lines = list_text (codes "edits") edit_line lines

-- the lines of an edits part
abbrev pub edits_lines : List EditLine → List (List ℕ)
edits_lines lines = list_lines (codes "edits") edit_line lines

-- the line is the heading, which is one word and says nothing more
abbrev pub IsEditsHeading : List ℕ → Type 0
IsEditsHeading line = Says {X = BareHeading EditsWord} Always (alone (codes "edits")) line

-- the lines are those of an edits part
abbrev pub IsEditsPart : List (List ℕ) → Type 0
IsEditsPart lines = IsListPart IsEditsHeading edit_line AreEdits lines

-- these are the edits and rounds that the text says
pub record TellsEdits (text : List ℕ) (lines : List EditLine) : Type 0 where
  pub are : AreEdits lines
  pub is : text ≡ edits_text lines

-- the text of an edits part, the number of its heading line, and how many lines and how many rounds
-- it says, 2^64 - 1 at the most
pub record WrittenEdits : Type 0 where
  pub text : List ℕ
  pub number : ℕ
  pub events : ℕ
  pub rounds : ℕ

-- a text with its heading in this line, so many lines and so many rounds
abbrev pub written_edits : List ℕ → ℕ → ℕ → ℕ → WrittenEdits
written_edits text number events rounds =
    record { text = text; number = number; events = events; rounds = rounds }

-- the text says some edits and rounds, which are counted
pub record HasEdits (written : WrittenEdits) : Type 0 where
  pub list : List EditLine
  pub tells : TellsEdits written.text list
  pub events : written.events ≡ counted list
  pub rounds : written.rounds ≡ counted (rounds_of list)
  pub within : written.number ≤ 2 ^ 63

-- the reader has passed an edits part, and kept its text, its place and its counts
pub record PassesEdits (old new : Left) (written : WrittenEdits) : Type 0 where
  pub list : List EditLine
  pub tells : TellsEdits written.text list
  pub passed : Passes old new (edits_lines list)
  pub heading : written.number ≡ old.number
  pub events : written.events ≡ counted list
  pub rounds : written.rounds ≡ counted (rounds_of list)

-- the lines and the rounds are within their limits
abbrev pub AreFew : List EditLine → Type 0
AreFew lines = AreFewLines (length lines) (length (rounds_of lines))

-- why the lines of a text are refused: there are too many, or there was no memory
abbrev pub IsEditsRefusal : List EditLine → TextError → Type 0
IsEditsRefusal lines error = IsLinesRefusal (length lines) (length (rounds_of lines)) error
