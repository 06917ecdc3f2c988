-- Which limits an input passes.
use Rattle.std.proofs.Common.{◌≡◌, ◌∙◌, ℕ, ◌+◌, ◌-◌, ◌≤◌, ◌<◌, ◌^◌, Bool, true, false, List, [], ◌∷◌, ◌++◌, length, nat_lt, Option, Some, None, if◌then◌else◌, ap, refl, sym, arith}
use Rattle.std.specs.Option.{option_map_or, unwrap_or}
use Rattle.std.proofs.lemmas.Bool.Decides.{nat_tests}
use Rattle.pls_streams.specs.declared.text_error.TextError.{TextError}
use Rattle.pls_streams.specs.declared.text_error.TextError.TheVariants.{Limit}
use Rattle.pls_streams.specs.declared.text_error.Quantity.{Quantity}
use Rattle.pls_streams.specs.declared.text_error.Quantity.TheVariants.{Nodes, Ports, Bits, Events, Rounds}
use Rattle.pls_configuration.specs.declared.row.NodeRow.{NodeRow}
use Rattle.pls_configuration.specs.declared.limits.TheConstants.{MAX_BITS, MAX_LINES, MAX_NODES, MAX_PORTS, MAX_ROUNDS}
use Rattle.pls_configuration.specs.Configuration.{first_of, ports_in}
use Rattle.pls_netfile.specs.NetworkScan.{TellsNetwork, WrittenNetwork}
use Rattle.pls_labelfile.specs.LabelsText.{Labelling}
use Rattle.pls_labelfile.specs.LabelsScan.{WrittenLabels, total_bits}
use Rattle.pls_streams.specs.Steps.{capped}
use Rattle.pls_schedule.specs.declared.event.Event.{Event}
use Rattle.pls_schedule.specs.ScheduleText.{WrittenSchedule}
use Rattle.pls_edits.specs.declared.edit_line.EditLine.{EditLine}
use Rattle.pls_edits.specs.EditsText.{WrittenEdits, rounds_of}
use Rattle.pls_watch_part.specs.declared.watch_event.WatchLine.{WatchLine}
use Rattle.pls_watch_part.specs.WatchText.{WrittenWatch, looks_of, total_relabel_bits as relabelled_bits}
use Rattle.pls_inputs.specs.declared.parts.Parts.{Parts}
use Rattle.pls_inputs.specs.declared.texts.Texts.{Texts}
use Rattle.pls_inputs.specs.Parts.{Input, edits_in, events_in, named_in, rows_in, watch_in}
use Rattle.pls_inputs.specs.Order.{limits, over}
use Rattle.pls_inputs.specs.inner.Scanned.{IsScanned, TellsIfAny, TellsEditsAt, TellsLabelsAt, TellsScheduleAt, TellsWatchAt, bits_in, count_in, limits_told}

-- a count within its limit is no refusal
pub within : (quantity : Quantity) (most count : ℕ) → count ≤ most → over quantity most count ≡ None
within quantity most count few =
    let no_more : nat_lt most count ≡ false = grind (arith, nat_tests) in
    rw no_more refl

-- a count that is no refusal is within its limit
pub few_of : (quantity : Quantity) (most count : ℕ) → over quantity most count ≡ None → count ≤ most
few_of quantity most count none = by (nat_lt most count) refl none
  where
    by : (b : Bool) → nat_lt most count ≡ b → (if b then Some (Limit quantity) else None) ≡ None
        → count ≤ most
    by true is none = absurd (cc)
    by false is none = grind (arith, nat_tests)

-- behind refusals of which none occurs, the first is the first of the others
pub first_behind : (front back : List (Option TextError)) → first_of front ≡ None
    → first_of (front ++ back) ≡ first_of back
first_behind [] back none = refl
first_behind (None ∷ front) back none = first_behind front back none
first_behind (Some error ∷ front) back none = absurd (cc)

-- the first refusal of a front is the first
pub first_in : (front back : List (Option TextError)) (error : TextError)
    → first_of front ≡ Some error → first_of (front ++ back) ≡ Some error
first_in [] back error some = absurd (cc)
first_in (None ∷ front) back error some = first_in front back error some
first_in (Some found ∷ front) back error some = some

-- where no refusal of two lists occurs, none of the first does
pub none_in : (front back : List (Option TextError)) → first_of (front ++ back) ≡ None
    → first_of front ≡ None
none_in [] back none = refl
none_in (None ∷ front) back none = none_in front back none
none_in (Some error ∷ front) back none = absurd (cc)

-- where none of some refusals occurs, neither the first nor one of the others does
pub none_of : (first : Option TextError) (others : List (Option TextError))
    → first_of (first ∷ others) ≡ None → (first ≡ None) × (first_of others ≡ None)
none_of None others none = (refl, none)
none_of (Some error) others none = absurd (cc)

-- an input within the limits
pub record AreFew (input : Input) : Type 0 where
  pub nodes : length (rows_in input) ≤ MAX_NODES
  pub ports : ports_in (rows_in input) ≤ MAX_PORTS
  pub bits : total_bits (named_in input) + relabelled_bits (watch_in input) ≤ MAX_BITS
  pub events : length (events_in input) ≤ MAX_LINES
  pub lines : length (edits_in input) ≤ MAX_LINES
  pub watch_lines : length (watch_in input) ≤ MAX_LINES
  pub rounds : length (rounds_of (edits_in input)) ≤ MAX_ROUNDS
  pub looks : length (looks_of (watch_in input)) ≤ MAX_ROUNDS

pub few_in : (input : Input) → first_of (limits input) ≡ None → AreFew input
few_in input none =
    let one = none_of _ _ none in
    let two = none_of _ _ one.1 in
    let three = none_of _ _ two.1 in
    let four = none_of _ _ three.1 in
    let five = none_of _ _ four.1 in
    let six = none_of _ _ five.1 in
    let seven = none_of _ _ six.1 in
    let eight = none_of _ _ seven.1 in record {
      nodes = few_of Nodes MAX_NODES (length (rows_in input)) one.0;
      ports = few_of Ports MAX_PORTS (ports_in (rows_in input)) two.0;
      bits = few_of Bits MAX_BITS
          (total_bits (named_in input) + relabelled_bits (watch_in input)) three.0;
      events = few_of Events MAX_LINES (length (events_in input)) four.0;
      lines = few_of Events MAX_LINES (length (edits_in input)) five.0;
      watch_lines = few_of Events MAX_LINES (length (watch_in input)) six.0;
      rounds = few_of Rounds MAX_ROUNDS (length (rounds_of (edits_in input))) seven.0;
      looks = few_of Rounds MAX_ROUNDS (length (looks_of (watch_in input))) eight.0;
    }

-- then the labels of the labels part alone have few bits
pub few_label_bits : (input : Input) → AreFew input → total_bits (named_in input) ≤ MAX_BITS
few_label_bits input few = omega (arith, few.bits)

-- a count that is capped passes the limit where the count does
capped_over : (quantity : Quantity) (most count : ℕ) → most < 2 ^ 64 - 1
    → over quantity most (capped count) ≡ over quantity most count
capped_over quantity most count small =
    let same : nat_lt most (capped count) ≡ nat_lt most count = grind (arith, nat_tests) in
    rw same refl

-- what was counted of a text is what it says
counted_told : {T X : Type 0} (Told : T → X → Type 0) (count : T → ℕ) (size : Option X → ℕ)
    → size None ≡ 0
    → ((text : T) (part : X) → Told text part → count text ≡ size (Some part))
    → (text : Option T) (part : Option X) → TellsIfAny Told text part
    → count_in count text ≡ size part
counted_told Told count size none one None None tells = sym none
counted_told Told count size none one None (Some part) tells = absurd tells
counted_told Told count size none one (Some text) None tells = absurd tells
counted_told Told count size none one (Some text) (Some part) tells = one text part tells

-- so it passes the limit where what it says does
capped_told : {T X : Type 0} (quantity : Quantity) (most : ℕ) (Told : T → X → Type 0)
    (count : T → ℕ) (size : Option X → ℕ) → most < 2 ^ 64 - 1 → size None ≡ 0
    → ((text : T) (part : X) → Told text part → count text ≡ capped (size (Some part)))
    → (text : Option T) (part : Option X) → TellsIfAny Told text part
    → over quantity most (count_in count text) ≡ over quantity most (size part)
capped_told quantity most Told count size small none one text part tells =
    let zero : capped (size None) ≡ 0 = omega (arith, none) in
    ap (over quantity most)
    (counted_told Told count (λ part. capped (size part)) zero one text part tells)
    ∙ capped_over quantity most (size part) small

nodes_told : (text : Option WrittenNetwork) (rows : Option (List NodeRow))
    → TellsIfAny TellsNetwork text rows
    → count_in (λ text. text.nodes) text ≡ length (unwrap_or rows [])
nodes_told =
    counted_told TellsNetwork (λ text. text.nodes) (λ rows. length (unwrap_or rows [])) refl
    (λ text rows tells. tells.nodes)

ports_told : (text : Option WrittenNetwork) (rows : Option (List NodeRow))
    → TellsIfAny TellsNetwork text rows
    → count_in (λ text. text.ports) text ≡ ports_in (unwrap_or rows [])
ports_told =
    counted_told TellsNetwork (λ text. text.ports) (λ rows. ports_in (unwrap_or rows [])) refl
    (λ text rows tells. tells.ports)

label_bits_told : (line : ℕ) (text : Option WrittenLabels) (labels : Option Labelling)
    → TellsIfAny (TellsLabelsAt line) text labels
    → count_in (λ text. text.bits) text
    ≡ capped (total_bits (option_map_or (λ said. said.labels) labels []))
label_bits_told line =
    counted_told (TellsLabelsAt line) (λ text. text.bits)
    (λ labels. capped (total_bits (option_map_or (λ said. said.labels) labels []))) refl
    (λ text labels tells. tells.sum)

watch_bits_told : (line : ℕ) (text : Option WrittenWatch) (watch : Option (List WatchLine))
    → TellsIfAny (TellsWatchAt line) text watch
    → count_in (λ text. text.bits) text ≡ capped (relabelled_bits (unwrap_or watch []))
watch_bits_told line =
    counted_told (TellsWatchAt line) (λ text. text.bits)
    (λ watch. capped (relabelled_bits (unwrap_or watch []))) refl
    (λ text watch tells. tells.sum)

-- two counts together
both_over : (labels watch label_bits watch_bits : ℕ) → labels ≡ capped label_bits
    → watch ≡ capped watch_bits
    → over Bits MAX_BITS (capped (labels + watch)) ≡ over Bits MAX_BITS (label_bits + watch_bits)
both_over labels watch label_bits watch_bits one other =
    let same : capped (labels + watch) ≡ capped (label_bits + watch_bits) =
    omega (arith, one, other) in
    ap (over Bits MAX_BITS) same ∙ capped_over Bits MAX_BITS (label_bits + watch_bits) (omega arith)

events_told : (line : ℕ) (text : Option WrittenSchedule) (events : Option (List Event))
    → TellsIfAny (TellsScheduleAt line) text events
    → over Events MAX_LINES (count_in (λ text. text.events) text)
    ≡ over Events MAX_LINES (length (unwrap_or events []))
events_told line =
    capped_told Events MAX_LINES (TellsScheduleAt line) (λ text. text.events)
    (λ events. length (unwrap_or events [])) (omega arith) refl (λ text events tells. tells.count)

lines_told : (line : ℕ) (text : Option WrittenEdits) (edits : Option (List EditLine))
    → TellsIfAny (TellsEditsAt line) text edits
    → over Events MAX_LINES (count_in (λ text. text.events) text)
    ≡ over Events MAX_LINES (length (unwrap_or edits []))
lines_told line =
    capped_told Events MAX_LINES (TellsEditsAt line) (λ text. text.events)
    (λ edits. length (unwrap_or edits [])) (omega arith) refl (λ text edits tells. tells.lines)

rounds_told : (line : ℕ) (text : Option WrittenEdits) (edits : Option (List EditLine))
    → TellsIfAny (TellsEditsAt line) text edits
    → over Rounds MAX_ROUNDS (count_in (λ text. text.rounds) text)
    ≡ over Rounds MAX_ROUNDS (length (rounds_of (unwrap_or edits [])))
rounds_told line =
    capped_told Rounds MAX_ROUNDS (TellsEditsAt line) (λ text. text.rounds)
    (λ edits. length (rounds_of (unwrap_or edits []))) (omega arith) refl
    (λ text edits tells. tells.rounds)

watch_lines_told : (line : ℕ) (text : Option WrittenWatch) (watch : Option (List WatchLine))
    → TellsIfAny (TellsWatchAt line) text watch
    → over Events MAX_LINES (count_in (λ text. text.events) text)
    ≡ over Events MAX_LINES (length (unwrap_or watch []))
watch_lines_told line =
    capped_told Events MAX_LINES (TellsWatchAt line) (λ text. text.events)
    (λ watch. length (unwrap_or watch [])) (omega arith) refl (λ text watch tells. tells.lines)

looks_told : (line : ℕ) (text : Option WrittenWatch) (watch : Option (List WatchLine))
    → TellsIfAny (TellsWatchAt line) text watch
    → over Rounds MAX_ROUNDS (count_in (λ text. text.looks) text)
    ≡ over Rounds MAX_ROUNDS (length (looks_of (unwrap_or watch [])))
looks_told line =
    capped_told Rounds MAX_ROUNDS (TellsWatchAt line) (λ text. text.looks)
    (λ watch. length (looks_of (unwrap_or watch []))) (omega arith) refl
    (λ text watch tells. tells.looks)

-- the limits on what was scanned are those on what it says
pub limits_same : (parts : Parts) (bytes : List ℕ) (texts : Texts)
    (scanned : IsScanned parts bytes texts) → limits_told texts ≡ limits scanned.input
limits_same parts bytes texts scanned =
    let input : Input = scanned.input in
    let bits : over Bits MAX_BITS (bits_in texts)
    ≡ over Bits MAX_BITS (total_bits (named_in input) + relabelled_bits (watch_in input)) =
    both_over (count_in (λ text. text.bits) texts.labels)
    (count_in (λ text. text.bits) texts.watch) (total_bits (named_in input))
    (relabelled_bits (watch_in input))
    (label_bits_told _ texts.labels input.labels scanned.labels)
    (watch_bits_told _ texts.watch input.watch scanned.watch) in
    rw (
      nodes_told texts.network input.network scanned.network,
      ports_told texts.network input.network scanned.network,
      bits,
      events_told _ texts.schedule input.schedule scanned.schedule,
      lines_told _ texts.edits input.edits scanned.edits,
      watch_lines_told _ texts.watch input.watch scanned.watch,
      rounds_told _ texts.edits input.edits scanned.edits,
      looks_told _ texts.watch input.watch scanned.watch,
    ) refl
