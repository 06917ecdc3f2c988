-- What was scanned of an input.
use Rattle.std.specs.Prelude.{◌≡◌, ℕ, ◌+◌, Bool, true, false, List, [], ◌∷◌, Option, Some, None, ⊤}
use Rattle.pls_streams.specs.declared.text_error.TextError.{TextError}
use Rattle.pls_streams.specs.declared.text_error.Quantity.TheVariants.{Nodes, Ports, Bits, Events, Rounds}
use Rattle.pls_configuration.specs.declared.limits.TheConstants.{MAX_BITS, MAX_LINES, MAX_NODES, MAX_PORTS, MAX_ROUNDS}
use Rattle.pls_lines.specs.Counted.{counted}
use Rattle.pls_lines.specs.Lines.{Left}
use Rattle.pls_lines.specs.Text.{text_of}
use Rattle.pls_netfile.specs.NetworkScan.{TellsNetwork}
use Rattle.pls_labelfile.specs.LabelsText.{Labelling}
use Rattle.pls_labelfile.specs.LabelsScan.{TellsLabels, WrittenLabels, total_bits}
use Rattle.pls_streams.specs.Steps.{capped}
use Rattle.pls_schedule.specs.declared.event.Event.{Event}
use Rattle.pls_schedule.specs.ScheduleText.{TellsSchedule, WrittenSchedule}
use Rattle.pls_edits.specs.declared.edit_line.EditLine.{EditLine}
use Rattle.pls_edits.specs.EditsText.{TellsEdits, WrittenEdits, rounds_of}
use Rattle.pls_watch_part.specs.declared.watch_event.WatchLine.{WatchLine}
use Rattle.pls_watch_part.specs.WatchText.{TellsWatch, WrittenWatch, looks_of, total_relabel_bits as relabelled_bits}
use Rattle.pls_rules_part.specs.RulesScan.{TellsRules, WrittenRules}
use Rattle.pls_rules_part.specs.RulesText.{RulesSaid}
use Rattle.pls_inputs.specs.declared.parts.Parts.{Parts}
use Rattle.pls_inputs.specs.declared.texts.Texts.{Texts}
use Rattle.pls_inputs.specs.Parts.{HasParts, Input, input_lines}
use Rattle.pls_inputs.specs.Order.{edits_heading, labels_heading, over, rules_heading, schedule_heading, watch_heading}

-- the lines of a part where it is wanted, and else none
abbrev pub If : Bool → (List (List ℕ) → Type 0) → List (List ℕ) → Type 0
If true format lines = format lines
If false format lines = lines ≡ []

-- a part was passed where it is wanted, and else nothing
abbrev pub PassesIf : {X : Type 0} → Bool → (Left → Left → X → Type 0) → Left → Left → Option X
    → Type 0
PassesIf true Passed old new None = ⊥
PassesIf true Passed old new (Some part) = Passed old new part
PassesIf false Passed old new None = new ≡ old
PassesIf false Passed old new (Some part) = ⊥

-- a text was scanned just where there is a part, and tells it
abbrev pub TellsIfAny : {X Y : Type 0} → (X → Y → Type 0) → Option X → Option Y → Type 0
TellsIfAny Told None None = ⊤
TellsIfAny Told None (Some part) = ⊥
TellsIfAny Told (Some text) None = ⊥
TellsIfAny Told (Some text) (Some part) = Told text part

-- the labels are those of the text, whose heading is the line of this number
pub record TellsLabelsAt (heading : ℕ) (written : WrittenLabels)
    (said : Labelling) : Type 0 where
  pub tells : TellsLabels written.text said
  pub code : written.code ≡ said.code
  pub number : written.number ≡ heading
  pub sum : written.bits ≡ capped (total_bits said.labels)

-- so it is with events
pub record TellsScheduleAt (heading : ℕ) (written : WrittenSchedule)
    (events : List Event) : Type 0 where
  pub tells : TellsSchedule written.text events
  pub number : written.number ≡ heading
  pub count : written.events ≡ counted events

-- and with edits
pub record TellsEditsAt (heading : ℕ) (written : WrittenEdits)
    (edits : List EditLine) : Type 0 where
  pub tells : TellsEdits written.text edits
  pub number : written.number ≡ heading
  pub lines : written.events ≡ counted edits
  pub rounds : written.rounds ≡ counted (rounds_of edits)

-- and with a watch
pub record TellsWatchAt (heading : ℕ) (written : WrittenWatch)
    (watch : List WatchLine) : Type 0 where
  pub tells : TellsWatch written.text watch
  pub number : written.number ≡ heading
  pub lines : written.events ≡ counted watch
  pub looks : written.looks ≡ counted (looks_of watch)
  pub sum : written.bits ≡ capped (relabelled_bits watch)

-- and with rules
pub record TellsRulesAt (heading : ℕ) (written : WrittenRules) (said : RulesSaid) : Type 0 where
  pub tells : TellsRules written.text said
  pub number : written.number ≡ heading

-- the bytes are the text of an input with these parts, which were scanned
pub record IsScanned (parts : Parts) (bytes : List ℕ) (texts : Texts) : Type 0 where
  pub input : Input
  pub has : HasParts parts input
  pub is : bytes ≡ text_of (input_lines input)
  pub network : TellsIfAny TellsNetwork texts.network input.network
  pub labels : TellsIfAny (TellsLabelsAt (labels_heading input)) texts.labels input.labels
  pub schedule : TellsIfAny (TellsScheduleAt (schedule_heading input)) texts.schedule input.schedule
  pub edits : TellsIfAny (TellsEditsAt (edits_heading input)) texts.edits input.edits
  pub watch : TellsIfAny (TellsWatchAt (watch_heading input)) texts.watch input.watch
  pub rules : TellsIfAny (TellsRulesAt (rules_heading input)) texts.rules input.rules

-- what was counted of a text, 0 where there is none
abbrev pub count_in : {X : Type 0} → (X → ℕ) → Option X → ℕ
count_in count None = 0
count_in count (Some text) = count text

-- the bits of the labels and of a watch together, 2^64 - 1 at the most
abbrev pub bits_in : Texts → ℕ
bits_in texts =
    capped (count_in (λ text. text.bits) texts.labels + count_in (λ text. text.bits) texts.watch)

-- the limits on what was scanned
abbrev pub limits_told : Texts → List (Option TextError)
limits_told texts =
    over Nodes MAX_NODES (count_in (λ text. text.nodes) texts.network)
    ∷ over Ports MAX_PORTS (count_in (λ text. text.ports) texts.network)
    ∷ over Bits MAX_BITS (bits_in texts)
    ∷ over Events MAX_LINES (count_in (λ text. text.events) texts.schedule)
    ∷ over Events MAX_LINES (count_in (λ text. text.events) texts.edits)
    ∷ over Events MAX_LINES (count_in (λ text. text.events) texts.watch)
    ∷ over Rounds MAX_ROUNDS (count_in (λ text. text.rounds) texts.edits)
    ∷ over Rounds MAX_ROUNDS (count_in (λ text. text.looks) texts.watch)
    ∷ []
