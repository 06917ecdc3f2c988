-- What was read, as an input.
use Rattle.std.specs.Prelude.{◌≡◌, ℕ, ◌+◌, Bool, List, [], length, Option, Some, None, option_map, ⊤}
use Rattle.std.specs.Option.{unwrap_or}
use Rattle.pls_configuration.specs.declared.row.NodeRow.{NodeRow}
use Rattle.pls_schedule.specs.declared.event.Event.{Event}
use Rattle.pls_edits.specs.declared.edit_line.EditLine.{EditLine}
use Rattle.pls_watch_part.specs.declared.watch_event.WatchLine.{WatchLine}
use Rattle.pls_rules.specs.declared.rule_set.RuleSet.{RuleSet}
use Rattle.pls_rules.specs.HeldTrees.{set_of}
use Rattle.pls_rules.specs.RuleSet.{AreRules}
use Rattle.pls_rules_part.specs.RulesText.{said_of_set, set_said}
use Rattle.pls_inputs.specs.declared.input.Input.{Input as Read}
use Rattle.pls_inputs.specs.declared.parts.Parts.{Parts}
use Rattle.pls_inputs.specs.Parts.{Input, code_in, net_labelling}
use Rattle.pls_inputs.specs.Order.{IsInput, edits_heading, schedule_heading, watch_heading}

-- what was read, part by part
abbrev pub said : Read → Input
said read = record {
  network = read.network;
  labels = option_map (net_labelling read.code (unwrap_or read.network [])) read.labels;
  schedule = option_map (λ list. list.items) read.schedule;
  edits = option_map (λ list. list.items) read.edits;
  watch = option_map (λ list. list.items) read.watch;
  rules = option_map (λ set. said_of_set (set_of set)) read.rules;
}

-- there is a label for each node, where there are both
abbrev pub AreEach : Option (List NodeRow) → Option (List (List Bool)) → Type 0
AreEach None store = ⊤
AreEach (Some net) None = ⊤
AreEach (Some net) (Some store) = length store ≡ length net

-- this is the line of the first event or edit, or the first of a watch
abbrev pub IsFirstLine : Option (List Event) → Option (List EditLine) → Option (List WatchLine)
    → Input → ℕ → Type 0
IsFirstLine (Some events) edits watch input line = line ≡ schedule_heading input + 1
IsFirstLine None (Some edits) watch input line = line ≡ edits_heading input + 1
IsFirstLine None None (Some watch) input line = line ≡ watch_heading input + 1
IsFirstLine None None None input line = ⊤

-- the rule set makes sense, and the part that is written of it says this set again
abbrev pub IsSensible : Option RuleSet → Type 0
IsSensible None = ⊤
IsSensible (Some set) = AreRules (set_of set) × (set_said (said_of_set (set_of set)) ≡ set_of set)

-- what was read is an input with these parts
pub record IsRead (parts : Parts) (bytes : List ℕ) (read : Read) : Type 0 where
  pub is : IsInput parts bytes (said read)
  pub each : AreEach read.network read.labels
  pub code : read.code ≡ code_in (said read)
  pub line : IsFirstLine (said read).schedule (said read).edits (said read).watch (said read)
      read.first_line
  pub rules : IsSensible read.rules
