-- Why an input is refused: the refusals in their order, of which the first that occurs is answered.
use Rattle.std.specs.Prelude.{◌≡◌, ◌⊎◌, ℕ, ◌+◌, ◌≤◌, ◌<◌, nat_lt, if◌then◌else◌, List, [], ◌∷◌, ◌++◌, length, Option, Some, None, option_map, option_and_then}
use Rattle.pls_streams.specs.declared.text_error.TextError.{TextError}
use Rattle.pls_streams.specs.declared.text_error.TextError.TheVariants.{Limit}
use Rattle.pls_streams.specs.declared.text_error.Quantity.{Quantity}
use Rattle.pls_streams.specs.declared.text_error.Quantity.TheVariants.{Input as InputBytes, Nodes, Ports, Bits, Events, Rounds}
use Rattle.pls_configuration.specs.declared.limits.TheConstants.{MAX_BITS, MAX_INPUT, MAX_LINES, MAX_NODES, MAX_PORTS, MAX_ROUNDS}
use Rattle.pls_configuration.specs.Configuration.{first_of, ids_of, ports_in, refusal_of}
use Rattle.pls_lines.specs.Fault.{NamesFirstFault}
use Rattle.pls_netfile.specs.NetworkBuild.{text_error_of}
use Rattle.pls_netfile.specs.NetworkText.{network_lines}
use Rattle.pls_labelfile.specs.LabelsText.{labels_lines}
use Rattle.pls_labelfile.specs.LabelsScan.{total_bits}
use Rattle.pls_labelfile.specs.Misfit.{misfit}
use Rattle.pls_labelfile.specs.Refusal.{misfit_error}
use Rattle.pls_schedule.specs.ScheduleText.{schedule_lines}
use Rattle.pls_edits.specs.EditsText.{edits_lines, rounds_of}
use Rattle.pls_watch_part.specs.WatchText.{looks_of, total_relabel_bits as relabelled_bits, watch_part_lines}
use Rattle.pls_rules_part.specs.RulesText.{rules_refusal}
use Rattle.pls_inputs.specs.declared.parts.Parts.{Parts}
use Rattle.pls_inputs.specs.Parts.{AreLines, Input, IsInputText, edits_in, events_in, lines_of, named_in, rows_in, watch_in}

-- the line of the heading of a labels part: the next behind all parts in front of it
abbrev pub labels_heading : Input → ℕ
labels_heading input = 1 + length (lines_of network_lines input.network)

-- the line of the heading of a schedule part: the next behind all parts in front of it
abbrev pub schedule_heading : Input → ℕ
schedule_heading input = labels_heading input + length (lines_of labels_lines input.labels)

-- the line of the heading of an edits part: the next behind all parts in front of it
abbrev pub edits_heading : Input → ℕ
edits_heading input = schedule_heading input + length (lines_of schedule_lines input.schedule)

-- the line of the heading of a watch part: the next behind all parts in front of it
abbrev pub watch_heading : Input → ℕ
watch_heading input = edits_heading input + length (lines_of edits_lines input.edits)

-- the line of the heading of a rules part: the next behind all parts in front of it
abbrev pub rules_heading : Input → ℕ
rules_heading input = watch_heading input + length (lines_of watch_part_lines input.watch)

-- a quantity that passes its limit
abbrev pub over : Quantity → ℕ → ℕ → Option TextError
over quantity most count = if nat_lt most count then Some (Limit quantity) else None

-- the limits on what the parts have; a part that is not there counts as an empty one. The labels of
-- the labels part and those that a watch gives count together
abbrev pub limits : Input → List (Option TextError)
limits input =
    over Nodes MAX_NODES (length (rows_in input))
    ∷ over Ports MAX_PORTS (ports_in (rows_in input))
    ∷ over Bits MAX_BITS (total_bits (named_in input) + relabelled_bits (watch_in input))
    ∷ over Events MAX_LINES (length (events_in input))
    ∷ over Events MAX_LINES (length (edits_in input))
    ∷ over Events MAX_LINES (length (watch_in input))
    ∷ over Rounds MAX_ROUNDS (length (rounds_of (edits_in input)))
    ∷ over Rounds MAX_ROUNDS (length (looks_of (watch_in input)))
    ∷ []

-- what makes no sense: the first of 10 to 16 of the rows; then 20, the first line of the labels
-- part that does not fit the nodes; then 51 or 50, by the first line of the rules part that makes
-- none
abbrev pub senses : Input → List (Option TextError)
senses input =
    option_map text_error_of (refusal_of (rows_in input))
    ∷ option_map (misfit_error (labels_heading input))
    (option_and_then (λ said. misfit (ids_of (rows_in input)) said.labels) input.labels)
    ∷ option_and_then (rules_refusal (rules_heading input)) input.rules
    ∷ []

-- the refusals of what the parts say, in their order
abbrev pub refusals : Input → List (Option TextError)
refusals input = limits input ++ senses input

-- the bytes are an input: they say it, within the limit on bytes, and no refusal occurs
pub record IsInput (parts : Parts) (bytes : List ℕ) (input : Input) : Type 0 where
  pub short : length bytes ≤ MAX_INPUT
  pub says : IsInputText parts bytes input
  pub accepted : first_of (refusals input) ≡ None

-- the bytes say something that is refused
pub record RefusesParts (parts : Parts) (bytes : List ℕ) (error : TextError) : Type 0 where
  pub input : Input
  pub says : IsInputText parts bytes input
  pub first : first_of (refusals input) ≡ Some error

-- the bytes are no input: they are too many, or else by their first faulty line, or else by what
-- they say
abbrev pub IsNoInput : Parts → List ℕ → TextError → Type 0
IsNoInput parts bytes error =
    ((error ≡ Limit InputBytes) × (MAX_INPUT < length bytes))
    ⊎ ((length bytes ≤ MAX_INPUT)
    × (NamesFirstFault (AreLines parts) bytes error ⊎ RefusesParts parts bytes error))

-- the bytes are an input, or are refused
abbrev pub IsInputOrNot : Parts → List ℕ → Type 0
IsInputOrNot parts bytes =
    ((input : Input) × IsInput parts bytes input)
    ⊎ ((error : TextError) × IsNoInput parts bytes error)
