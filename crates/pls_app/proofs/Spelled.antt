-- What the bytes of an input begin and end with.
use Rattle.std.proofs.Common.{◌≡◌, ◌∙◌, ℕ, Bool, true, false, List, [], ◌++◌, Option, Some, None, append-nil, append_assoc, ap, refl, sym}
use Rattle.std.specs.Option.{unwrap_or}
use Rattle.pls_configuration.specs.declared.row.NodeRow.{NodeRow}
use Rattle.pls_lines.specs.Text.{text_of}
use Rattle.pls_lines.specs.laws.Fronts.{text_of-append}
use Rattle.pls_netfile.specs.NetworkText.{AreRows, network_lines, network_text}
use Rattle.pls_labelfile.specs.LabelsText.{AreLabels, labels_lines}
use Rattle.pls_schedule.specs.ScheduleText.{AreEvents, schedule_lines}
use Rattle.pls_edits.specs.EditsText.{AreEdits, edits_lines}
use Rattle.pls_watch_part.specs.WatchText.{AreWatch, watch_part_lines}
use Rattle.pls_rules_part.specs.RulesText.{AreRulesSaid, rules_lines}
use Rattle.pls_inputs.specs.declared.parts.Parts.{Parts}
use Rattle.pls_inputs.specs.Parts.{Has, Input, edits_in, input_lines, lines_of, network_alone, parts_with_edits, rows_in}
use Rattle.pls_inputs.specs.Order.{IsInput}
use Rattle.pls_inputs.proofs.Facts.{readable}
use Rattle.pls_app.specs.Spelled.{BeginsWithNetwork, EndsWithEdits, IsNetworkText}

-- a part that is not wanted is not there
pub gone : {X : Type 0} (Fits : X → Type 0) (wanted : Bool) (part : Option X) → wanted ≡ false
    → Has wanted Fits part → part ≡ None
gone Fits true part is has = absurd (cc)
gone Fits false None is has = refl
gone Fits false (Some part) is has = absurd has

-- a list that is wanted is there
list_there : {X : Type 0} (Fits : List X → Type 0) (wanted : Bool) (part : Option (List X))
    → wanted ≡ true → Has wanted Fits part → part ≡ Some (unwrap_or part [])
list_there Fits true None is has = absurd has
list_there Fits true (Some list) is has = refl
list_there Fits false part is has = absurd (cc)

-- an input has no more than a network and labels
pub record HasNoMore (input : Input) : Type 0 where
  pub schedule : input.schedule ≡ None
  pub edits : input.edits ≡ None
  pub watch : input.watch ≡ None
  pub rules : input.rules ≡ None

module _ (parts : Parts) (bytes : List ℕ) (input : Input) (is : IsInput parts bytes input) where
  -- an input whose network is wanted has one
  pub network_there : parts.network ≡ true → input.network ≡ Some (rows_in input)
  network_there wanted = list_there AreRows parts.network input.network wanted is.says.has.network

  pub without_others : parts.schedule ≡ false → parts.edits ≡ false → parts.watch ≡ false
      → parts.rules ≡ false → HasNoMore input
  without_others unscheduled unedited unwatched unruled = record {
    schedule = gone AreEvents parts.schedule input.schedule unscheduled is.says.has.schedule;
    edits = gone AreEdits parts.edits input.edits unedited is.says.has.edits;
    watch = gone AreWatch parts.watch input.watch unwatched is.says.has.watch;
    rules = gone AreRulesSaid parts.rules input.rules unruled is.says.has.rules;
  }

  -- its text begins with that of the network
  pub begins_with_network : parts.network ≡ true → BeginsWithNetwork bytes (rows_in input)
  begins_with_network wanted =
      let rows : List NodeRow = rows_in input in
      let known = readable parts bytes input is wanted in
      let there = network_there wanted in
      let behind : List (List ℕ) = lines_of labels_lines input.labels
      ++ (lines_of schedule_lines input.schedule ++ (lines_of edits_lines input.edits
      ++ (lines_of watch_part_lines input.watch ++ lines_of rules_lines input.rules))) in
      let lines : input_lines input ≡ network_lines rows ++ behind =
      λ i. lines_of network_lines (there i) ++ behind in
      record {
        front = network_text rows;
        behind = text_of behind;
        says = record { network = known.network; ranges = known.ranges; is = refl };
        is = is.says.is ∙ ap text_of lines ∙ text_of-append (network_lines rows) behind;
      }

-- an input of a network alone is its text
pub whole_network : (bytes : List ℕ) (input : Input) → IsInput network_alone bytes input
    → IsNetworkText bytes (rows_in input)
whole_network bytes input is =
    let rows : List NodeRow = rows_in input in
    let known = readable network_alone bytes input is refl in
    let there = network_there network_alone bytes input is refl in
    let unlabelled : input.labels ≡ None =
    gone (AreLabels false) false input.labels refl is.says.has.labels in
    let none = without_others network_alone bytes input is refl refl refl refl in
    let alone : input_lines input ≡ network_lines rows = (λ i.
    lines_of network_lines (there i) ++ (lines_of labels_lines (unlabelled i)
    ++ (lines_of schedule_lines (none.schedule i) ++ (lines_of edits_lines (none.edits i)
    ++ (lines_of watch_part_lines (none.watch i) ++ lines_of rules_lines (none.rules i))))))
    ∙ append-nil (network_lines rows) in
    record {
      network = known.network;
      ranges = known.ranges;
      is = is.says.is ∙ ap text_of alone;
    }

-- an input with edits ends with their text
pub ends_with_edits : (bytes : List ℕ) (input : Input) → IsInput parts_with_edits bytes input
    → EndsWithEdits bytes (edits_in input)
ends_with_edits bytes input is =
    let edits : List (List ℕ) = edits_lines (edits_in input) in
    let there = list_there AreEdits true input.edits refl is.says.has.edits in
    let unwatched : input.watch ≡ None = gone AreWatch false input.watch refl is.says.has.watch in
    let unruled : input.rules ≡ None = gone AreRulesSaid false input.rules refl is.says.has.rules in
    let front : List (List ℕ) = lines_of network_lines input.network in
    let labels : List (List ℕ) = lines_of labels_lines input.labels in
    let schedule : List (List ℕ) = lines_of schedule_lines input.schedule in
    let before : List (List ℕ) = front ++ (labels ++ schedule) in
    let lines : input_lines input ≡ front ++ (labels ++ (schedule ++ edits)) =
    (λ i. front ++ (labels ++ (schedule ++ (lines_of edits_lines (there i)
    ++ (lines_of watch_part_lines (unwatched i) ++ lines_of rules_lines (unruled i))))))
    ∙ ap (λ last. front ++ (labels ++ (schedule ++ last))) (append-nil edits) in
    let apart : front ++ (labels ++ (schedule ++ edits)) ≡ before ++ edits =
    ap (λ rest. front ++ rest) (sym (append_assoc labels schedule edits))
    ∙ sym (append_assoc front (labels ++ schedule) edits) in
    record {
      before = text_of before;
      is = is.says.is ∙ ap text_of (lines ∙ apart) ∙ text_of-append before edits;
    }
