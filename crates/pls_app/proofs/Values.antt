-- The values of an input that was read.
use Rattle.std.proofs.Common.{◌≡◌, ◌∙◌, ℕ, ◌+◌, ◌≤◌, ◌^◌, Bool, true, false, List, [], ◌∷◌, ◌++◌, map, length, Option, Some, None, option_map, length-append, ap, subst, sym, arith}
use Rattle.std.specs.Option.{option_map_or, unwrap_or}
use Rattle.std.proofs.lemmas.List.{length-map}
use Rattle.std.proofs.lemmas.Option.{same_Some}
use Rattle.pls_configuration.specs.declared.limits.TheConstants.{MAX_BITS, MAX_INPUT, MAX_LINES}
use Rattle.pls_configuration.specs.declared.row.NodeRow.{NodeRow}
use Rattle.pls_configuration.specs.Configuration.{ids_of}
use Rattle.pls_lines.specs.Text.{text_of}
use Rattle.pls_netfile.specs.NetworkText.{AreRows, network_lines}
use Rattle.pls_components.specs.Components.{AreComponents}
use Rattle.pls_labelfile.specs.LabelsText.{labels_lines}
use Rattle.pls_labelfile.proofs.Named.{bare-named}
use Rattle.pls_schedule.specs.declared.event.Event.{Event}
use Rattle.pls_schedule.specs.ScheduleText.{schedule_lines}
use Rattle.pls_edits.specs.declared.edit_line.EditLine.{EditLine}
use Rattle.pls_edits.specs.EditsText.{AreEdits, AreFew, edits_lines, rounds_of}
use Rattle.pls_watch_part.specs.declared.watch_event.WatchLine.{WatchLine}
use Rattle.pls_watch_part.specs.WatchText.{total_relabel_bits, watch_part_lines}
use Rattle.pls_rules.specs.declared.rule_set.RuleSet.{RuleSet}
use Rattle.pls_rules.specs.HeldTrees.{set_of}
use Rattle.pls_rules.specs.RuleSet.{AreRules, rules_of}
use Rattle.pls_rules_part.specs.RulesText.{rules_lines, said_of_set, set_said}
use Rattle.pls_inputs.specs.declared.input.Input.{Input as Read}
use Rattle.pls_inputs.specs.declared.parts.Parts.{Parts}
use Rattle.pls_inputs.specs.Parts.{Has, Input, edits_in, labels_in, lines_of, net_labelling, rows_in, watch_in}
use Rattle.pls_inputs.specs.Order.{IsInput, edits_heading, schedule_heading, watch_heading}
use Rattle.pls_inputs.specs.Read.{AreEach, IsFirstLine, IsRead, IsSensible, said}
use Rattle.pls_inputs.proofs.Facts.{few}
use Rattle.pls_app.specs.Ruled.{set_in}
use Rattle.pls_app.proofs.Spelled.{gone}

-- the items of a list that is there
pub items_are : {V X : Type 0} (part : Option V) (list : V) (items : V → List X) → part ≡ Some list
    → unwrap_or (option_map items part) [] ≡ items list
items_are part list items is = ap (λ part. unwrap_or (option_map items part) []) is

-- the rows of a network that was read
pub rows_are : (read : Read) (net : List NodeRow) → read.network ≡ Some net
    → rows_in (said read) ≡ net
rows_are read net is = ap (λ (network : Option (List NodeRow)). unwrap_or network []) is

-- a part that is there fits
fits : {X : Type 0} (Fits : X → Type 0) (wanted : Bool) (part : Option X) (value : X)
    → part ≡ Some value → Has wanted Fits part → Fits value
fits Fits true None value is has = absurd (cc)
fits Fits true (Some other) value is has = subst Fits (same_Some other value is) has
fits Fits false None value is has = absurd (cc)
fits Fits false (Some other) value is has = absurd has

-- a text has at most as many lines as bytes
lines_fit : (lines : List (List ℕ)) → length lines ≤ length (text_of lines)
lines_fit [] = omega arith
lines_fit (line ∷ lines) =
    omega (arith, lines_fit lines, length-append line (10 ∷ text_of lines))

-- so no heading stands far behind the bytes
headings_small : (bytes : List ℕ) (network labels schedule edits others : List (List ℕ))
    → length bytes ≤ MAX_INPUT
    → bytes ≡ text_of (network ++ (labels ++ (schedule ++ (edits ++ others))))
    → length network + length labels + length schedule + length edits ≤ MAX_INPUT
headings_small bytes network labels schedule edits others short is =
    omega (
      arith,
      short,
      ap (length {A = ℕ}) is,
      lines_fit (network ++ (labels ++ (schedule ++ (edits ++ others)))),
      length-append network (labels ++ (schedule ++ (edits ++ others))),
      length-append labels (schedule ++ (edits ++ others)),
      length-append schedule (edits ++ others),
      length-append edits others,
    )

-- the first line of a schedule stands behind its heading
at_schedule : (schedule : Option (List Event)) (edits : Option (List EditLine))
    (watch : Option (List WatchLine)) (input : Input) (line : ℕ) (events : List Event)
    → schedule ≡ Some events → IsFirstLine schedule edits watch input line
    → line ≡ schedule_heading input + 1
at_schedule None edits watch input line events is at = absurd (cc)
at_schedule (Some other) edits watch input line events is at = at

-- and that of edits, where there is no schedule
at_edits : (schedule : Option (List Event)) (edits : Option (List EditLine))
    (watch : Option (List WatchLine)) (input : Input) (line : ℕ) (list : List EditLine)
    → schedule ≡ None → edits ≡ Some list → IsFirstLine schedule edits watch input line
    → line ≡ edits_heading input + 1
at_edits (Some events) edits watch input line list none is at = absurd (cc)
at_edits None None watch input line list none is at = absurd (cc)
at_edits None (Some other) watch input line list none is at = at

-- and that of a watch, where there are neither
at_watch : (schedule : Option (List Event)) (edits : Option (List EditLine))
    (watch : Option (List WatchLine)) (input : Input) (line : ℕ) (list : List WatchLine)
    → schedule ≡ None → edits ≡ None → watch ≡ Some list
    → IsFirstLine schedule edits watch input line → line ≡ watch_heading input + 1
at_watch (Some events) edits watch input line list none no_edits is at = absurd (cc)
at_watch None (Some other) watch input line list none no_edits is at = absurd (cc)
at_watch None None None input line list none no_edits is at = absurd (cc)
at_watch None None (Some other) input line list none no_edits is at = at

module _ (parts : Parts) (bytes : List ℕ) (read : Read) (is : IsRead parts bytes read) where
  whole : length (lines_of network_lines (said read).network)
      + length (lines_of labels_lines (said read).labels)
      + length (lines_of schedule_lines (said read).schedule)
      + length (lines_of edits_lines (said read).edits) ≤ MAX_INPUT
  whole =
      headings_small bytes (lines_of network_lines (said read).network)
      (lines_of labels_lines (said read).labels) (lines_of schedule_lines (said read).schedule)
      (lines_of edits_lines (said read).edits)
      (lines_of watch_part_lines (said read).watch ++ lines_of rules_lines (said read).rules)
      is.is.short is.is.says.is

  module _ (net : List NodeRow) (network : read.network ≡ Some net) (store : List (List Bool))
      (labels : read.labels ≡ Some store) where
    -- there is a label for each node
    pub labels_each : length store ≡ length net
    labels_each = let each : AreEach (Some net) (Some store) = rw (network, labels) at is.each in each

    -- they are those of the input
    pub labels_are : labels_in (said read) ≡ store
    labels_are =
        let rows : List NodeRow = rows_in (said read) in
        ap (λ (labels : Option (List (List Bool))). map (λ label. label.bits)
        (option_map_or (λ said. said.labels) (option_map (net_labelling read.code rows) labels) []))
        labels
        ∙ bare-named (ids_of rows) store (labels_each ∙ ap length (sym (rows_are read net network))
        ∙ sym (length-map (rows_in (said read)) (λ (row : NodeRow). row.id)))

  module _ (events : List Event) (schedule : (said read).schedule ≡ Some events) where
    -- the line of the first event
    pub schedule_at : read.first_line ≡ schedule_heading (said read) + 1
    schedule_at =
        at_schedule (said read).schedule (said read).edits (said read).watch (said read)
        read.first_line events schedule is.line

    pub schedule_small : read.first_line ≤ 2 ^ 63
    schedule_small = omega (arith, schedule_at, whole)

  module _ (list : List EditLine) (edits : (said read).edits ≡ Some list)
      (unscheduled : parts.schedule ≡ false) where
    -- the line of the first edit
    pub edits_at : read.first_line ≡ edits_heading (said read) + 1
    edits_at =
        at_edits (said read).schedule (said read).edits (said read).watch (said read)
        read.first_line list
        (gone _ parts.schedule (said read).schedule unscheduled is.is.says.has.schedule) edits is.line

    pub edits_small : read.first_line ≤ 2 ^ 63
    edits_small = omega (arith, edits_at, whole)

    -- the edits are those of a text
    pub edits_fit : AreEdits list
    edits_fit = fits AreEdits parts.edits (said read).edits list edits is.is.says.has.edits

    -- within the limits
    pub edits_few : AreFew list
    edits_few =
        let all = few parts bytes (said read) is.is in
        let same : edits_in (said read) ≡ list =
        ap (λ (edits : Option (List EditLine)). unwrap_or edits []) edits in record {
          few_lines = omega (arith, all.lines, ap length same);
          few_closing = omega (
            arith,
            all.rounds,
            ap (λ (edits : List EditLine). length (rounds_of edits)) same,
          );
        }

  module _ (list : List WatchLine) (watch : (said read).watch ≡ Some list)
      (unscheduled : parts.schedule ≡ false) (unedited : parts.edits ≡ false) where
    -- the first line of a watch
    pub watch_at : read.first_line ≡ watch_heading (said read) + 1
    watch_at =
        at_watch (said read).schedule (said read).edits (said read).watch (said read)
        read.first_line list
        (gone _ parts.schedule (said read).schedule unscheduled is.is.says.has.schedule)
        (gone _ parts.edits (said read).edits unedited is.is.says.has.edits) watch is.line

    pub watch_small : read.first_line ≤ 2 ^ 63
    watch_small = omega (arith, watch_at, whole)

    -- its lines and their bits are within the limits
    same_watch : watch_in (said read) ≡ list
    same_watch = ap (λ (watch : Option (List WatchLine)). unwrap_or watch []) watch

    pub watch_few : length list ≤ MAX_LINES
    watch_few =
        omega (arith, (few parts bytes (said read) is.is).watch_lines, ap length same_watch)

    pub watch_bits : total_relabel_bits list ≤ MAX_BITS
    watch_bits =
        omega (arith, (few parts bytes (said read) is.is).bits, ap total_relabel_bits same_watch)

  module _ (set : RuleSet) (rules : read.rules ≡ Some set) where
    sensible : IsSensible (Some set)
    sensible = subst IsSensible rules is.rules

    -- a rule set that was read makes sense
    pub rules_sense : AreRules (set_of set)
    rules_sense = sensible.0

    -- it is that of the input
    pub set_is : set_in (said read) ≡ set_of set
    set_is =
        ap (λ (rules : Option RuleSet). option_map_or set_said
        (option_map (λ set. said_of_set (set_of set)) rules) (rules_of [] [])) rules
        ∙ sensible.1

-- the components of a network that an input says are those of the input
pub made_of : (input : Input) (net : List NodeRow) (parts : List (List ℕ)) → rows_in input ≡ net
    → AreComponents net parts → AreComponents (rows_in input) parts
made_of input net parts same are =
    subst (λ (rows : List NodeRow). AreComponents rows parts) (sym same) are

-- no rows are read where no network is wanted
pub no_rows : (parts : Parts) (bytes : List ℕ) (input : Input) → IsInput parts bytes input
    → parts.network ≡ false → rows_in input ≡ []
no_rows parts bytes input is unwanted =
    ap (λ (network : Option (List NodeRow)). unwrap_or network [])
    (gone AreRows parts.network input.network unwanted is.says.has.network)
