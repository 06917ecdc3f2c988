-- What `splice` answers with `Done` is a network of two rings, in which no node sees a difference.
use Rattle.std.proofs.Common.{◌≡◌, ◌∙◌, ℕ, ◌-◌, ◌≤◌, inl, inr, Bool, List, [], ◌∷◌, ◌++◌, map, length, Option, Some, All, refl, sym, ap, subst, arith}
use Rattle.std.specs.Option.{option_map_or}
use Rattle.std.proofs.lemmas.List.{length-map}
use Rattle.std.proofs.lemmas.Simd.{map-map}
use Rattle.pls_bits.specs.declared.code_name.CodeName.{CodeName}
use Rattle.pls_bits.specs.declared.code_name.CodeName.TheVariants.{Gamma}
use Rattle.pls_configuration.specs.declared.limits.TheConstants.{MAX_BITS}
use Rattle.pls_configuration.specs.declared.row.NodeRow.{NodeRow}
use Rattle.pls_configuration.specs.declared.status.Status.TheVariants.{Done, No}
use Rattle.pls_configuration.specs.declared.verdict.Verdict.{Verdict}
use Rattle.pls_configuration.specs.declared.verdict.Verdict.TheVariants.{Accept}
use Rattle.pls_configuration.specs.Configuration.{IsNetwork, ids_of}
use Rattle.pls_facts.specs.Leader.{HasOneLeader}
use Rattle.pls_labels.specs.Labels.{bits_together}
use Rattle.pls_labels.specs.Seen.{Seen, views}
use Rattle.pls_netfile.specs.NetworkText.{network_text}
use Rattle.pls_labelfile.specs.LabelsScan.{total_bits}
use Rattle.pls_labelfile.specs.LabelsText.{Labelling, labelling_of, labels_text, named}
use Rattle.pls_labelfile.proofs.Named.{named-parts, total_bits-named}
use Rattle.pls_scheme.specs.Judging.{AllAccept}
use Rattle.pls_components.specs.Components.{IsComponent, items_at}
use Rattle.pls_components.proofs.Apart.{component_listed}
use Rattle.pls_graph.proofs.Members.{Contains-cons_cases}
use Rattle.pls_expressions.specs.Expression.{Expression, HasProperty, IsSmall}
use Rattle.pls_combine.specs.laws.ExpressionLaws.{expression_sound}
use Rattle.pls_inputs.specs.Order.{IsInput}
use Rattle.pls_inputs.specs.Parts.{Input, code_in, labels_in, named_in, net_labelling, net_labels_text, parts_with_labels, rows_in}
use Rattle.pls_inputs.proofs.Facts.{IsReadable, each, few, names, readable}
use Rattle.pls_splice.specs.Crossing.{IsPair, cross_row, crossed_rows, ends_of}
use Rattle.pls_splice.specs.Ring.{IsRing, IsRingOrder}
use Rattle.pls_splice.specs.TwoRings.{AreTwoRings, IsLeaderlessIn}
use Rattle.pls_splice.proofs.CrossedRows.{crossed_network}
use Rattle.pls_splice.proofs.NoLeader.{no_leader}
use Rattle.pls_splice.proofs.Parted.{two_parts}
use Rattle.pls_splice.proofs.SameViews.{same_views}
use Rattle.pls_app.specs.declared.command.Command.TheVariants.{With}
use Rattle.pls_app.specs.declared.command.Task.TheVariants.{Splice}
use Rattle.pls_app.specs.Answer.{Answers}
use Rattle.pls_app.specs.Meant.{judge_in, number_code_of, takes_of}
use Rattle.pls_app.specs.Run.{Splits}
use Rattle.pls_app.specs.Said.{Answer}
use Rattle.pls_app.specs.Verified.{IsDone, verify_words}
use Rattle.pls_app.specs.Verified.{labelled}
use Rattle.pls_app.proofs.Certified.{labelled_input}
use Rattle.pls_app.proofs.Spelled.{without_others}
use Rattle.pls_app.proofs.CrossedText.{crossed_fit}
use Rattle.pls_app.proofs.Proved.{accepted_holds, refused_not_done, takes_only}
use Rattle.pls_app.proofs.Spliced.{unrefused_accept}
use Rattle.pls_app.proofs.Verified.{accepted_all, verified_input}

module _ (scheme : Expression) (bytes : List ℕ) (input : Input)
    (is : IsInput parts_with_labels bytes input) (order : List ℕ)
    (of : IsRingOrder (rows_in input) order) (i j : ℕ)
    (pair : IsPair (rows_in input) (labels_in input) order i j)
    (accepted : AllAccept (judge_in (code_in input) scheme) (rows_in input) (labels_in input)) where
  abbrev rows : List NodeRow
  rows = rows_in input

  abbrev labels : List (List Bool)
  labels = labels_in input

  abbrev code : CodeName
  code = code_in input

  abbrev judge : Seen → Verdict
  judge = judge_in (code_in input) scheme

  abbrev crossed : List NodeRow
  crossed = crossed_rows (rows_in input) order i j

  known : IsReadable rows
  known = readable parts_with_labels bytes input is refl

  long : length labels ≡ length rows
  long = each parts_with_labels bytes input is refl

  net : IsNetwork crossed
  net = crossed_network rows known.network labels order of i j pair

  long_too : length labels ≡ length crossed
  long_too = long ∙ sym (length-map rows (cross_row (ends_of rows order i j)))

  same_ids : ids_of crossed ≡ ids_of rows
  same_ids = map-map (λ (row : NodeRow). row.id) (cross_row (ends_of rows order i j)) rows

  unseen : views crossed labels ≡ views rows labels
  unseen = same_views rows known.network labels long order of i j pair

  accepted_too : AllAccept judge crossed labels
  accepted_too = subst (All (λ (view : Seen). judge view ≡ Accept)) (sym unseen) accepted

  -- the labels that the input says are those of its nodes, and so of the nodes behind the crossing
  said : (said : Labelling) × (input.labels ≡ Some said)
      × (map (λ label. label.id) said.labels ≡ ids_of rows)
  said = names parts_with_labels bytes input is refl

  named_said : named (ids_of rows) labels ≡ said.0.labels
  named_said =
      let bits : labels ≡ map (λ label. label.bits) said.0.labels =
      ap (λ (labels : Option Labelling). map (λ label. label.bits)
      (option_map_or (λ said. said.labels) labels [])) said.1 in
      (λ n. named (sym said.2 n) (bits n)) ∙ named-parts said.0.labels

  labels_said : input.labels ≡ Some (net_labelling code crossed labels)
  labels_said =
      let code_is : code ≡ said.0.code =
      ap (λ (labels : Option Labelling). option_map_or (λ said. said.code) labels Gamma)
      said.1 in
      let same : named (ids_of crossed) labels ≡ said.0.labels =
      ap (λ (ids : List ℕ). named ids labels) same_ids ∙ named_said in
      said.1 ∙ (λ n. Some (labelling_of (sym code_is n) (sym same n)))

  short : bits_together labels ≤ MAX_BITS
  short =
      let all = few parts_with_labels bytes input is in
      let many = all.bits in
      let same : named_in input ≡ named (ids_of rows) labels =
      ap (λ (labels : Option Labelling). option_map_or (λ said. said.labels) labels []) said.1
      ∙ sym named_said in
      let sum = total_bits-named (ids_of rows) labels
      (long ∙ sym (length-map rows (λ (row : NodeRow). row.id))) in
      let total = ap total_bits same in
      omega arith

  read_back : IsInput parts_with_labels (network_text crossed ++ net_labels_text code rows labels)
      (record input { network = Some crossed })
  read_back =
      let fits : IsReadable crossed = record {
        network = net;
        ranges = crossed_fit rows known.ranges order i j;
      } in
      let whole = labelled_input code crossed labels fits long_too short in
      let text : net_labels_text code crossed labels ≡ net_labels_text code rows labels =
      ap (λ (ids : List ℕ). labels_text (labelling_of code (named ids labels))) same_ids in
      let gone = without_others parts_with_labels bytes input is refl refl refl refl in
      let same : labelled code crossed labels ≡ record input { network = Some crossed } =
      λ n. record {
        network = Some crossed;
        labels = sym labels_said n;
        schedule = sym gone.schedule n;
        edits = sym gone.edits n;
        watch = sym gone.watch n;
        rules = sym gone.rules n;
      } in
      subst (λ (text : List ℕ). IsInput parts_with_labels (network_text crossed ++ text)
      (record input { network = Some crossed })) text
      (subst (IsInput parts_with_labels
      (network_text crossed ++ net_labels_text code crossed labels)) same whole)

  pub splits : Splits scheme bytes (network_text crossed ++ net_labels_text code rows labels)
  splits = record {
    input = input;
    is = is;
    ring = of.ring;
    crossed = crossed;
    read_back = read_back;
    unseen = unseen;
    accepted = accepted_too;
    holds = accepted_holds code scheme crossed labels net long_too accepted_too;
    rings = (
      length rows - (j - i),
      j - i,
      two_parts rows known.network labels order of i j pair,
    );
    leaderless = no_leader rows known.network labels order of i j pair;
  }

-- what `splice` answers with `Done`
pub done_splits : (scheme : Expression) (bytes : List ℕ) (answer : Answer)
    → Answers (With Splice scheme) bytes answer → answer.status ≡ Done
    → Splits scheme bytes answer.text
done_splits scheme bytes answer answers done = elim answers [
  | inl refused ↦
      absurd (refused_not_done refused.0
      (sym (ap (λ (answer : Answer). answer.status) refused.2) ∙ done))
  | inr works ↦ elim works.yields.splices [
    | inl crossed ↦
        subst (Splits scheme bytes) (sym (ap (λ (answer : Answer). answer.text) crossed.says))
        (splits scheme bytes works.input works.is works.yields.order works.yields.round crossed.i
        crossed.j crossed.pair.pair
        (unrefused_accept (judge_in (code_in works.input) scheme) (rows_in works.input)
        (labels_in works.input) works.parts works.takes.accepted))
    | inr none ↦
        let other : No ≡ Done =
        sym (ap (λ (answer : Answer). answer.status) none.says) ∙ done in
        absurd (cc)
  ]
]

-- `verify` is `Done` on it
pub splits_verified : (scheme : Expression) (bytes text : List ℕ) → IsSmall scheme
    → Splits scheme bytes text → IsDone (verify_words scheme) text
splits_verified scheme bytes text small splits =
    let input : Input = record splits.input { network = Some splits.crossed } in
    let rings = splits.rings.2 in
    verified_input scheme text input (rings.first ∷ rings.second ∷ []) small splits.read_back
    rings.components
    (accepted_all (judge_in (code_in input) scheme) splits.crossed (labels_in input)
    splits.accepted)

-- each component of two rings is a ring
ring_alone : (rows : List NodeRow) → IsNetwork rows → (one other : ℕ)
    → AreTwoRings rows one other → (places : List ℕ) → IsComponent rows places
    → IsRing (items_at rows places)
ring_alone rows net one other rings places is =
    elim (Contains-cons_cases rings.first (rings.second ∷ []) places
    (component_listed rows net (rings.first ∷ rings.second ∷ []) rings.components places is)) [
      | inl e ↦ subst (λ (places : List ℕ). IsRing (items_at rows places)) e rings.first_ring
      | inr later ↦ elim (Contains-cons_cases rings.second [] places later) [
        | inl e ↦ subst (λ (places : List ℕ). IsRing (items_at rows places)) e rings.second_ring
        | inr none ↦ absurd (let inside = none.1 in omega arith)
      ]
    ]

-- no labels of a scheme that means one leader on every ring are spliced
pub one_leader_stays : (scheme : Expression)
    → ((rows : List NodeRow) → IsRing rows → HasProperty scheme rows → HasOneLeader rows)
    → (bytes text : List ℕ) → Splits scheme bytes text → ⊥
one_leader_stays scheme leads bytes text splits =
    let input : Input = splits.input in
    let code : CodeName = code_in input in
    let rows : List NodeRow = rows_in input in
    let judge : Seen → Verdict = judge_in code scheme in
    let crossed : List NodeRow = splits.crossed in
    let accepted : AllAccept judge rows (labels_in input) =
    subst (All (λ (view : Seen). judge view ≡ Accept)) splits.unseen splits.accepted in
    let has : HasProperty scheme rows =
    expression_sound (number_code_of code) (takes_of code) (takes_only code) scheme rows
    (labels_in input) (readable parts_with_labels bytes input splits.is refl).network
    splits.ring.connected (each parts_with_labels bytes input splits.is refl) accepted in
    let none : IsLeaderlessIn crossed = splits.leaderless (leads rows splits.ring has) in
    let net : IsNetwork crossed = (readable parts_with_labels text
    (record input { network = Some crossed }) splits.read_back refl).network in
    zero_not_one none.none (leads (items_at crossed none.places)
    (ring_alone crossed net splits.rings.0 splits.rings.1 splits.rings.2 none.places none.component)
    (splits.holds none.places none.component))
  where
    zero_not_one : {count : ℕ} → count ≡ 0 → count ≡ 1 → ⊥
    zero_not_one none one = absurd (omega (arith, none, one))
