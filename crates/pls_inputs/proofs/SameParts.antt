-- What was built of each part is what its text says.
use Rattle.std.proofs.Common.{◌≡◌, ◌∙◌, ℕ, ◌+◌, Bool, true, false, List, [], length, Option, Some, None, option_map, ap, subst, refl, sym}
use Rattle.std.specs.Option.{option_map_or, unwrap_or}
use Rattle.std.proofs.lemmas.List.{length-map}
use Rattle.pls_configuration.specs.declared.row.NodeRow.{NodeRow}
use Rattle.pls_configuration.specs.Configuration.{ids_of}
use Rattle.pls_netfile.specs.NetworkScan.{TellsNetwork, WrittenNetwork}
use Rattle.pls_netfile.specs.NetworkText.{AreRows}
use Rattle.pls_bits.specs.declared.code_name.CodeName.TheVariants.{Gamma}
use Rattle.pls_labelfile.specs.LabelsText.{AreLabels, Labelling, NamedLabel, named}
use Rattle.pls_labelfile.specs.LabelsScan.{WrittenLabels}
use Rattle.pls_labelfile.proofs.Named.{named-parts}
use Rattle.pls_schedule.specs.declared.event.Event.{Event}
use Rattle.pls_schedule.specs.ScheduleText.{WrittenSchedule}
use Rattle.pls_edits.specs.declared.edit_line.EditLine.{EditLine}
use Rattle.pls_edits.specs.EditsText.{WrittenEdits}
use Rattle.pls_watch_part.specs.declared.watch_event.WatchLine.{WatchLine}
use Rattle.pls_watch_part.specs.WatchText.{WrittenWatch}
use Rattle.pls_rules.specs.declared.rule_set.RuleSet.{RuleSet}
use Rattle.pls_rules.specs.HeldTrees.{set_of}
use Rattle.pls_rules_part.specs.RulesScan.{WrittenRules}
use Rattle.pls_rules_part.specs.RulesText.{RulesSaid, said_of_set}
use Rattle.pls_inputs.specs.Parts.{Has, Input, net_labelling}
use Rattle.pls_inputs.specs.Order.{edits_heading, schedule_heading, watch_heading}
use Rattle.pls_inputs.specs.inner.Scanned.{TellsIfAny, TellsEditsAt, TellsLabelsAt, TellsRulesAt, TellsScheduleAt, TellsWatchAt}
use Rattle.pls_inputs.specs.Read.{AreEach, IsFirstLine, said}
use Rattle.pls_inputs.specs.inner.Built.{AreBuilt, AreEditsOf, AreEventsOf, AreListed, AreEditsIfAny, IsBuilt, IsNetOf, IsSetIfAny, IsWatchIfAny, IsWatchOf, code_of, first_line_of}

-- what was built of a part is what its text says
same_part : {T X : Type 0} (Told Made : T → X → Type 0)
    → ((text : T) (part made : X) → Told text part → Made text made → made ≡ part)
    → (text : Option T) (made found : Option X) → TellsIfAny Told text found
    → TellsIfAny Made text made → made ≡ found
same_part Told Made one None None None tells built = refl
same_part Told Made one None None (Some part) tells built = absurd tells
same_part Told Made one None (Some made) found tells built = absurd built
same_part Told Made one (Some text) None found tells built = absurd built
same_part Told Made one (Some text) (Some made) None tells built = absurd tells
same_part Told Made one (Some text) (Some made) (Some part) tells built =
    ap Some (one text part made tells built)

pub network_same : (text : Option WrittenNetwork) (net found : Option (List NodeRow))
    → TellsIfAny TellsNetwork text found → IsBuilt text net → net ≡ found
network_same text net found tells built =
    same_part TellsNetwork IsNetOf (λ text rows net told of. of.rows rows told) text net found tells
    built

pub events_same : (line : ℕ) (text : Option WrittenSchedule) (list found : Option (List Event))
    → TellsIfAny (TellsScheduleAt line) text found → AreListed text list → list ≡ found
events_same line text list found tells listed =
    same_part (TellsScheduleAt line) AreEventsOf (λ text events list told of. of events told.tells)
    text list found tells listed

pub edits_same : (line : ℕ) (text : Option WrittenEdits) (list found : Option (List EditLine))
    → TellsIfAny (TellsEditsAt line) text found → AreEditsIfAny text list → list ≡ found
edits_same line text list found tells made =
    same_part (TellsEditsAt line) AreEditsOf (λ text edits list told of. of edits told.tells) text
    list found tells made

pub watch_same : (line : ℕ) (text : Option WrittenWatch) (list found : Option (List WatchLine))
    → TellsIfAny (TellsWatchAt line) text found → IsWatchIfAny text list → list ≡ found
watch_same line text list found tells listed =
    same_part (TellsWatchAt line) IsWatchOf (λ text watch list told of. of watch told.tells) text
    list found tells listed

pub rules_same : (line : ℕ) (text : Option WrittenRules) (set : Option RuleSet)
    (found : Option RulesSaid) → TellsIfAny (TellsRulesAt line) text found → IsSetIfAny text set
    → option_map (λ set. said_of_set (set_of set)) set ≡ found
rules_same line None None None tells built = refl
rules_same line None None (Some said) tells built = absurd tells
rules_same line None (Some set) found tells built = absurd built
rules_same line (Some text) None found tells built = absurd built
rules_same line (Some text) (Some set) None tells built = absurd tells
rules_same line (Some text) (Some set) (Some said) tells built =
    ap Some (built.back said tells.tells)

pub labels_same : (line : ℕ) (text : Option WrittenLabels) (net : Option (List NodeRow))
    (store : Option (List (List Bool))) (found : Option Labelling)
    → (net ≡ None → found ≡ None) → TellsIfAny (TellsLabelsAt line) text found
    → AreBuilt text net store
    → option_map (net_labelling (code_of text) (unwrap_or net [])) store ≡ found
labels_same line None net None None behind tells built = refl
labels_same line None net None (Some labels) behind tells built = absurd tells
labels_same line None net (Some store) found behind tells built = absurd built
labels_same line (Some text) net store None behind tells built = absurd tells
labels_same line (Some text) None store (Some labels) behind tells built =
    absurd (let none : Some labels ≡ None = behind refl in cc)
labels_same line (Some text) (Some net) None (Some labels) behind tells built = absurd built
labels_same line (Some text) (Some net) (Some store) (Some labels) behind tells built =
    let code = tells.code in
    let named_labels : named (ids_of net) store ≡ labels.labels =
    rw (← built.ids labels tells.tells, built.bits labels tells.tells)
    (named-parts labels.labels) in
    λ i. Some (record { code = code i; labels = named_labels i })

-- a store that was built has a label for each node
pub each_label : (line : ℕ) (text : Option WrittenLabels) (net : Option (List NodeRow))
    (store : Option (List (List Bool))) (found : Option Labelling)
    → TellsIfAny (TellsLabelsAt line) text found → AreBuilt text net store → AreEach net store
each_label line text None store found tells built = tt
each_label line text (Some net) None found tells built = tt
each_label line None (Some net) (Some store) found tells built = absurd built
each_label line (Some text) (Some net) (Some store) None tells built = absurd tells
each_label line (Some text) (Some net) (Some store) (Some labels) tells built =
    ap length (built.bits labels tells.tells)
    ∙ length-map labels.labels (λ (label : NamedLabel). label.bits)
    ∙ sym (length-map labels.labels (λ (label : NamedLabel). label.id))
    ∙ ap length (built.ids labels tells.tells) ∙ length-map net (λ (row : NodeRow). row.id)

-- the code that was read is that of the labels, if there are some
pub code_same : (line : ℕ) (text : Option WrittenLabels) (net : Option (List NodeRow))
    (store : Option (List (List Bool))) (found : Option Labelling)
    → (net ≡ None → found ≡ None) → TellsIfAny (TellsLabelsAt line) text found
    → AreBuilt text net store
    → code_of text ≡ option_map_or (λ said. said.code)
    (option_map (net_labelling (code_of text) (unwrap_or net [])) store) Gamma
code_same line text net (Some store) found behind tells built = refl
code_same line None net None found behind tells built = refl
code_same line (Some text) net None None behind tells built = absurd tells
code_same line (Some text) None None (Some labels) behind tells built =
    absurd (let none : Some labels ≡ None = behind refl in cc)
code_same line (Some text) (Some net) None (Some labels) behind tells built = absurd built

-- the line of the first event or edit, or the first of a watch
pub line_of : (input : Input) (schedule : Option WrittenSchedule) (edits : Option WrittenEdits)
    (watch : Option WrittenWatch) (events : Option (List Event)) (lines : Option (List EditLine))
    (watched : Option (List WatchLine))
    → TellsIfAny (TellsScheduleAt (schedule_heading input)) schedule events
    → TellsIfAny (TellsEditsAt (edits_heading input)) edits lines
    → TellsIfAny (TellsWatchAt (watch_heading input)) watch watched
    → IsFirstLine events lines watched input (first_line_of schedule edits watch)
line_of input schedule edits watch None None None one two three = tt
line_of input None edits watch (Some events) lines watched one two three = absurd one
line_of input (Some text) edits watch (Some events) lines watched one two three =
    ap (λ (line : ℕ). line + 1) one.number
line_of input (Some text) edits watch None (Some lines) watched one two three = absurd one
line_of input None None watch None (Some lines) watched one two three = absurd two
line_of input None (Some text) watch None (Some lines) watched one two three =
    ap (λ (line : ℕ). line + 1) two.number
line_of input (Some text) edits watch None None (Some watched) one two three = absurd one
line_of input None (Some text) watch None None (Some watched) one two three = absurd two
line_of input None None None None None (Some watched) one two three = absurd three
line_of input None None (Some text) None None (Some watched) one two three =
    ap (λ (line : ℕ). line + 1) three.number

-- without a network there are no labels
pub no_labels : (of_labels of_network delta : Bool) (labels : Option Labelling)
    (network : Option (List NodeRow)) → (of_labels ≡ true → of_network ≡ true)
    → Has of_labels (AreLabels delta) labels → Has of_network AreRows network → network ≡ None
    → labels ≡ None
no_labels false of_network delta None network behind has have none = refl
no_labels false of_network delta (Some labels) network behind has have none = absurd has
no_labels true of_network delta labels network behind has have none =
    let there : Has true AreRows None =
    subst (λ (wanted : Bool). Has wanted AreRows None) (behind refl)
    (subst (Has of_network AreRows) none have) in absurd there
