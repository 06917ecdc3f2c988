-- Labels that `mark` wrote are read back with their network.
use Rattle.std.specs.List.{sum_by}
use Rattle.std.proofs.Common.{◌+◌, ◌≡◌, ◌∙◌, ℕ, ◌*◌, ◌≤◌, inl, inr, Bool, true, false, List, [], ◌∷◌, ◌++◌, length, All, Contains, Some, None, append-nil, ap, subst, refl, sym, arith}
use Rattle.std.proofs.Math.Nat.{suc-mul}
use Rattle.std.proofs.lemmas.List.{length-map}
use Rattle.std.proofs.lemmas.List.Elements.{All-head, All-tail}
use Rattle.std.proofs.lemmas.List.Sums.{sum_by-cons}
use Rattle.pls_streams.specs.declared.text_error.Quantity.TheVariants.{Nodes, Ports, Bits, Labels}
use Rattle.pls_configuration.specs.declared.limits.TheConstants.{MAX_BITS, MAX_NODES, MAX_PORTS}
use Rattle.pls_configuration.specs.declared.row.NodeRow.{NodeRow}
use Rattle.pls_configuration.specs.declared.status.Status.TheVariants.{Done}
use Rattle.pls_configuration.specs.Configuration.{IsNetwork, first_of, ids_of, ports_in}
use Rattle.pls_graph.specs.Size.{size_of}
use Rattle.pls_graph.proofs.Members.{Contains-first, Contains-later}
use Rattle.pls_lines.specs.Text.{text_of}
use Rattle.pls_lines.specs.laws.Fronts.{text_of-append}
use Rattle.pls_netfile.specs.NetworkText.{network_lines, network_text}
use Rattle.pls_labels.specs.Labels.{bits_together}
use Rattle.pls_labelfile.specs.LabelsText.{labels_lines, named}
use Rattle.pls_labelfile.specs.LabelsScan.{total_bits}
use Rattle.pls_labelfile.proofs.LabelsPart.{either_may}
use Rattle.pls_labelfile.proofs.Named.{named_no_misfit, net_labels_fit, total_bits-named}
use Rattle.pls_expressions.specs.Expression.{Expression}
use Rattle.pls_components.specs.Components.{AreComponents, IsComponent, items_at}
use Rattle.pls_components.proofs.Items.{length-items}
use Rattle.pls_components.proofs.Part.{places_within}
use Rattle.pls_components.proofs.Partition.{sum_of_parts}
use Rattle.pls_inputs.specs.declared.parts.Parts.{Parts}
use Rattle.pls_inputs.specs.Parts.{Input, parts_with_labels, net_labelling, net_labels_text, network_alone, rows_in, with_labels}
use Rattle.pls_inputs.specs.Order.{IsInput, over, refusals}
use Rattle.pls_inputs.proofs.Facts.{IsReadable, readable}
use Rattle.pls_inputs.proofs.WithinLimits.{few_of, within}
use Rattle.pls_bits.specs.declared.code_name.CodeName.{CodeName}
use Rattle.pls_app.specs.declared.command.Command.TheVariants.{With}
use Rattle.pls_app.specs.declared.command.Task.{Task}
use Rattle.pls_app.specs.declared.command.Task.TheVariants.{Mark, Verify, Simulate, Recheck, Watch, Bound, Convert, Splice}
use Rattle.pls_app.specs.Command.{input_parts_of}
use Rattle.pls_app.specs.Meant.{Shows, longest_in, room_in}
use Rattle.pls_app.specs.Said.{Answer}
use Rattle.pls_app.specs.Run.{Certifies}
use Rattle.pls_app.specs.Verified.{labelled}
use Rattle.pls_app.specs.inner.Tasks.{DoesWork, ShowsIn}
use Rattle.pls_app.proofs.Proved.{refused_not_done}
use Rattle.pls_app.proofs.TextLengths.{text_fits}
use Rattle.pls_app.proofs.Spelled.{network_there, whole_network, without_others}

-- labels of at most so many bits each have at most so many times as many bits as there are labels
together_short : (most : ℕ) (labels : List (List Bool)) → All (λ label. length label ≤ most) labels
    → bits_together labels ≤ length labels * most
together_short most [] short = omega arith
together_short most (label ∷ labels) short =
    let Short : List Bool → Type 0 = λ label. length label ≤ most in
    omega (
      arith,
      sum_by-cons (length {A = Bool}) label labels,
      suc-mul (length labels) most,
      All-head Short label labels short,
      together_short most labels (All-tail Short label labels short),
    )

-- marked labels that are not refused have few bits together
marked_few : (code : CodeName) (scheme : Expression) (rows : List NodeRow) (parts : List (List ℕ))
    (labels : List (List Bool)) → IsNetwork rows → AreComponents rows parts
    → over Labels MAX_BITS (room_in code scheme rows parts) ≡ None → Shows code scheme rows labels
    → bits_together labels ≤ MAX_BITS
marked_few code scheme rows parts labels network are accepted shows =
    let few = few_of Labels MAX_BITS (room_in code scheme rows parts) accepted in
    let all : sum_by (λ places. sum_by length (items_at labels places)) parts ≡ sum_by length labels =
    sum_of_parts rows network parts are (length {A = Bool}) labels shows.each in
    omega (arith, few, all, below parts (λ places in'. in'))
  where
    one : (places : List ℕ) → IsComponent rows places → sum_by length (items_at labels places)
        ≤ length places * longest_in code scheme (size_of (items_at rows places))
    one places is =
        let longest : ℕ = longest_in code scheme (size_of (items_at rows places)) in
        let each : All (λ label. length label ≤ longest) (items_at labels places) =
        λ place other within. omega (arith, shows.short places is place other within) in
        let many : length (items_at labels places) ≡ length places =
        length-items labels places (λ k d within.
        omega (arith, places_within rows network places is k d within, shows.each)) in
        let product : length (items_at labels places) * longest ≡ length places * longest =
        ap (λ (count : ℕ). count * longest) many in
        omega (arith, together_short longest (items_at labels places) each, product)

    below : (some : List (List ℕ)) → ((places : List ℕ) → Contains some places → Contains parts places)
        → sum_by (λ places. sum_by length (items_at labels places)) some
        ≤ room_in code scheme rows some
    below [] among = omega arith
    below (places ∷ some) among =
        let here = one places (are.each places (among places (Contains-first places some))) in
        let rest = below some (λ others in'. among others (Contains-later places some others in')) in
        let left = sum_by-cons (λ (places : List ℕ). sum_by length (items_at labels places)) places some in
        let right = sum_by-cons (λ (places : List ℕ). length places
        * longest_in code scheme (size_of (items_at rows places))) places some in
        omega arith

-- nothing refuses a network with its labels
labelled_accepted : (code : CodeName) (rows : List NodeRow) (labels : List (List Bool)) → IsReadable rows
    → length labels ≡ length rows → bits_together labels ≤ MAX_BITS
    → first_of (refusals (labelled code rows labels)) ≡ None
labelled_accepted code rows labels known each small =
    let ids : List ℕ = ids_of rows in
    let many : length labels ≡ length ids =
    each ∙ sym (length-map rows (λ (row : NodeRow). row.id)) in
    rw (
      within Nodes MAX_NODES (length rows) known.network.limits.few_nodes,
      within Ports MAX_PORTS (ports_in rows) known.network.limits.few_ports,
      within Bits MAX_BITS (total_bits (named ids labels) + 0)
          (omega (arith, total_bits-named ids labels many, small)),
      known.network.valid,
      named_no_misfit ids labels many,
    ) refl

-- its text is an input, where the labels have few bits together
pub labelled_input : (code : CodeName) (rows : List NodeRow) (labels : List (List Bool))
    → IsReadable rows → length labels ≡ length rows → bits_together labels ≤ MAX_BITS
    → IsInput parts_with_labels (network_text rows ++ net_labels_text code rows labels)
    (labelled code rows labels)
labelled_input code rows labels known each small = record {
  short = omega (arith, text_fits code rows labels known.network known.ranges small);
  says = record {
    has = record {
      network = known.ranges;
      labels = record {
        fits = net_labels_fit rows labels known.ranges small;
        code = either_may code;
      };
      schedule = tt;
      edits = tt;
      watch = tt;
      rules = tt;
    };
    is = sym (text_of-append (network_lines rows) (labels_lines (net_labelling code rows labels)))
        ∙ ap (λ (behind : List (List ℕ)). text_of (network_lines rows ++ behind))
        (sym (append-nil (labels_lines (net_labelling code rows labels))));
  };
  accepted = labelled_accepted code rows labels known each small;
}

-- an input that has a network and no more than its labels, with other labels
pub relabelled : (parts : Parts) (bytes : List ℕ) (input : Input) → IsInput parts bytes input
    → parts.network ≡ true → parts.schedule ≡ false → parts.edits ≡ false
    → parts.watch ≡ false → parts.rules ≡ false → (code : CodeName) (labels : List (List Bool)) → length labels ≡ length (rows_in input)
    → bits_together labels ≤ MAX_BITS
    → IsInput parts_with_labels
    (network_text (rows_in input) ++ net_labels_text code (rows_in input) labels)
    (with_labels code input labels)
relabelled parts bytes input is wanted unscheduled unedited unwatched unruled code labels each small =
    let rows : List NodeRow = rows_in input in
    let there = network_there parts bytes input is wanted in
    let none = without_others parts bytes input is unscheduled unedited unwatched unruled in
    let same : with_labels code input labels ≡ labelled code rows labels = λ i. record {
      network = there i;
      labels = Some (net_labelling code rows labels);
      schedule = none.schedule i;
      edits = none.edits i;
      watch = none.watch i;
      rules = none.rules i;
    } in
    subst (IsInput parts_with_labels (network_text rows ++ net_labels_text code rows labels))
    (sym same)
    (labelled_input code rows labels (readable parts bytes input is wanted) each small)

-- what `mark` answered certifies the text of the network
pub certified : (code : CodeName) (scheme : Expression) (bytes : List ℕ) (input : Input) (answer : Answer)
    → IsInput network_alone bytes input → DoesWork (With (Mark code) scheme) input answer
    → ShowsIn code scheme (rows_in input) answer.text → answer.status ≡ Done
    → Certifies code scheme bytes answer.text
certified code scheme bytes input answer is work shown done =
    let rows : List NodeRow = rows_in input in
    let accepted : over Labels MAX_BITS (room_in code scheme rows work.parts) ≡ None = elim work.does [
      | inl refused ↦
          absurd (refused_not_done refused.0
          (sym (ap (λ (answer : Answer). answer.status) refused.2) ∙ done))
      | inr yields ↦ yields.0
    ] in
    record {
      rows = rows;
      labels = shown.labels;
      is = whole_network bytes input is;
      parts = work.parts;
      components = work.components;
      shows = shown.shows;
      few = marked_few code scheme rows work.parts shown.labels
          (readable network_alone bytes input is refl).network work.components accepted shown.shows;
      text_is = shown.is;
    }

-- so it is where the task is `mark`
pub certified_mark : (task : Task) (code : CodeName) (scheme : Expression) (bytes : List ℕ) (input : Input)
    (answer : Answer) → task ≡ Mark code → IsInput (input_parts_of (With task scheme)) bytes input
    → DoesWork (With task scheme) input answer → ShowsIn code scheme (rows_in input) answer.text
    → answer.status ≡ Done → Certifies code scheme bytes answer.text
certified_mark (Mark other) code scheme bytes input answer task is does shown done =
    let same : other ≡ code = cc in
    certified code scheme bytes input answer is
    (subst (λ (code : CodeName). DoesWork (With (Mark code) scheme) input answer) same does) shown done
certified_mark (Verify form) code scheme bytes input answer task is does shown done = absurd (cc)
certified_mark (Simulate form) code scheme bytes input answer task is does shown done = absurd (cc)
certified_mark Recheck code scheme bytes input answer task is does shown done = absurd (cc)
certified_mark Watch code scheme bytes input answer task is does shown done = absurd (cc)
certified_mark Convert code scheme bytes input answer task is does shown done = absurd (cc)
certified_mark Splice code scheme bytes input answer task is does shown done = absurd (cc)
certified_mark (Bound other) code scheme bytes input answer task is does shown done = absurd (cc)
