-- What was built of the texts that were scanned.
use Rattle.std.specs.Prelude.{◌≡◌, ℕ, ◌+◌, Bool, List, map, Option, Some, None, ⊤}
use Rattle.pls_streams.specs.declared.text_error.TextError.{TextError}
use Rattle.pls_streams.specs.declared.text_error.TextError.TheVariants.{NoMemory}
use Rattle.pls_configuration.specs.declared.row.NodeRow.{NodeRow}
use Rattle.pls_configuration.specs.Configuration.{IsNetwork, ids_of}
use Rattle.pls_netfile.specs.NetworkBuild.{IsRefusedBuild}
use Rattle.pls_netfile.specs.NetworkScan.{TellsNetwork, WrittenNetwork}
use Rattle.pls_bits.specs.declared.code_name.CodeName.{CodeName}
use Rattle.pls_bits.specs.declared.code_name.CodeName.TheVariants.{Gamma}
use Rattle.pls_labelfile.specs.LabelsText.{Labelling}
use Rattle.pls_labelfile.specs.LabelsScan.{TellsLabels, WrittenLabels}
use Rattle.pls_labelfile.specs.Refusal.{IsLabelsRefusal, labels_refusal}
use Rattle.pls_schedule.specs.declared.event.Event.{Event}
use Rattle.pls_schedule.specs.ScheduleText.{IsEventsRefusal, TellsSchedule, WrittenSchedule}
use Rattle.pls_edits.specs.declared.edit_line.EditLine.{EditLine}
use Rattle.pls_edits.specs.EditsText.{IsEditsRefusal, TellsEdits, WrittenEdits}
use Rattle.pls_watch_part.specs.declared.watch_event.WatchLine.{WatchLine}
use Rattle.pls_watch_part.specs.WatchText.{IsWatchRefusal, TellsWatch, WrittenWatch}
use Rattle.pls_rules.specs.declared.rule_set.RuleSet.{RuleSet}
use Rattle.pls_rules.specs.HeldTrees.{set_of}
use Rattle.pls_rules.specs.RuleSet.{AreRules}
use Rattle.pls_rules_part.specs.RulesScan.{TellsRules, WrittenRules}
use Rattle.pls_rules_part.specs.RulesText.{RulesSaid, rules_refusal, said_of_set, set_said}
use Rattle.pls_rules_part.specs.Refusal.{IsRulesRefusal}
use Rattle.pls_inputs.specs.inner.Scanned.{TellsIfAny}

-- the network is the one that the text says
pub record IsNetOf (written : WrittenNetwork) (net : List NodeRow) : Type 0 where
  pub rows : (rows : List NodeRow) → TellsNetwork written rows → net ≡ rows
  pub valid : IsNetwork net

abbrev pub IsBuilt : Option WrittenNetwork → Option (List NodeRow) → Type 0
IsBuilt text net = TellsIfAny IsNetOf text net

-- the error is the refusal of the rows that the text says, or want of memory
abbrev pub IsUnbuilt : Option WrittenNetwork → TextError → Type 0
IsUnbuilt None error = error ≡ NoMemory
IsUnbuilt (Some written) error = (rows : List NodeRow) → TellsNetwork written rows
    → IsRefusedBuild rows error

-- the store has the labels that the text says, which fit the nodes
pub record AreLabelsOf (net : List NodeRow) (written : WrittenLabels)
    (store : List (List Bool)) : Type 0 where
  pub bits : (said : Labelling) → TellsLabels written.text said
      → store ≡ map (λ label. label.bits) said.labels
  pub ids : (said : Labelling) → TellsLabels written.text said
      → map (λ label. label.id) said.labels ≡ ids_of net
  pub accepted : (said : Labelling) → TellsLabels written.text said
      → labels_refusal (ids_of net) written.number said.labels ≡ None

-- labels are built where there is a text, and a network
abbrev pub AreBuilt : Option WrittenLabels → Option (List NodeRow) → Option (List (List Bool))
    → Type 0
AreBuilt None net None = ⊤
AreBuilt None net (Some store) = ⊥
AreBuilt (Some written) None store = ⊤
AreBuilt (Some written) (Some net) None = ⊥
AreBuilt (Some written) (Some net) (Some store) = AreLabelsOf net written store

-- the error is the refusal of the labels that the text says, or want of memory
abbrev pub AreRefused : Option WrittenLabels → Option (List NodeRow) → TextError → Type 0
AreRefused None net error = error ≡ NoMemory
AreRefused (Some written) None error = error ≡ NoMemory
AreRefused (Some written) (Some net) error = (said : Labelling)
    → TellsLabels written.text said → IsLabelsRefusal (ids_of net) written.number said.labels error

-- the list has the events of the text, if there is one
abbrev pub AreEventsOf : WrittenSchedule → List Event → Type 0
AreEventsOf written list = (events : List Event) → TellsSchedule written.text events → list ≡ events

abbrev pub AreListed : Option WrittenSchedule → Option (List Event) → Type 0
AreListed text list = TellsIfAny AreEventsOf text list

-- the error is the refusal of the events that the text says, or want of memory
abbrev pub AreUnlisted : Option WrittenSchedule → TextError → Type 0
AreUnlisted None error = error ≡ NoMemory
AreUnlisted (Some written) error = (events : List Event) → TellsSchedule written.text events
    → IsEventsRefusal events error

-- the list has the edits of the text, if there is one
abbrev pub AreEditsOf : WrittenEdits → List EditLine → Type 0
AreEditsOf written list = (edits : List EditLine) → TellsEdits written.text edits → list ≡ edits

abbrev pub AreEditsIfAny : Option WrittenEdits → Option (List EditLine) → Type 0
AreEditsIfAny text list = TellsIfAny AreEditsOf text list

-- the error is the refusal of the edits that the text says, or want of memory
abbrev pub AreUnmade : Option WrittenEdits → TextError → Type 0
AreUnmade None error = error ≡ NoMemory
AreUnmade (Some written) error = (edits : List EditLine) → TellsEdits written.text edits
    → IsEditsRefusal edits error

-- the list has the lines of the watch that the text says, if there is one
abbrev pub IsWatchOf : WrittenWatch → List WatchLine → Type 0
IsWatchOf written list = (watch : List WatchLine) → TellsWatch written.text watch → list ≡ watch

abbrev pub IsWatchIfAny : Option WrittenWatch → Option (List WatchLine) → Type 0
IsWatchIfAny text list = TellsIfAny IsWatchOf text list

-- the error is the refusal of the watch that the text says, or want of memory
abbrev pub IsUnwatched : Option WrittenWatch → TextError → Type 0
IsUnwatched None error = error ≡ NoMemory
IsUnwatched (Some written) error = (watch : List WatchLine) → TellsWatch written.text watch
    → IsWatchRefusal watch error

-- the set is the one that the text says, which makes sense
pub record IsSetOf (written : WrittenRules) (set : RuleSet) : Type 0 where
  pub same : (said : RulesSaid) → TellsRules written.text said → set_of set ≡ set_said said
  pub back : (said : RulesSaid) → TellsRules written.text said → said_of_set (set_of set) ≡ said
  pub accepted : (said : RulesSaid) → TellsRules written.text said
      → rules_refusal written.number said ≡ None
  pub sense : AreRules (set_of set)

abbrev pub IsSetIfAny : Option WrittenRules → Option RuleSet → Type 0
IsSetIfAny text set = TellsIfAny IsSetOf text set

-- the error is the refusal of the rules that the text says, or want of memory
abbrev pub IsNoSet : Option WrittenRules → TextError → Type 0
IsNoSet None error = error ≡ NoMemory
IsNoSet (Some written) error = (said : RulesSaid) → TellsRules written.text said
    → IsRulesRefusal written.number said error

-- the code of the labels of a text, if there is one
abbrev pub code_of : Option WrittenLabels → CodeName
code_of None = Gamma
code_of (Some written) = written.code

-- the line of the first event or edit of a text, or the first of a watch, if there is one
abbrev pub first_line_of : Option WrittenSchedule → Option WrittenEdits → Option WrittenWatch → ℕ
first_line_of (Some written) edits watch = written.number + 1
first_line_of None (Some written) watch = written.number + 1
first_line_of None None (Some written) = written.number + 1
first_line_of None None None = 0
