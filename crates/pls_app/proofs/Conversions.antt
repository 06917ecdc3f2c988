-- `verify` has the same outcomes of converted labels.
use Rattle.std.proofs.Common.{◌≡◌, ◌∙◌, ℕ, ◌+◌, ◌<◌, ◌≤◌, Bool, true, false, List, [], ◌∷◌, map, length, Option, Some, None, is_some, if◌then◌else◌, option_map, option_and_then, slice_get, All, inl, inr, refl, sym, ap, subst, arith}
use Rattle.std.specs.Option.{option_map_or}
use Rattle.std.proofs.lemmas.List.{length-map}
use Rattle.std.proofs.lemmas.List.Elements.{All-cons, All-nil}
use Rattle.std.proofs.lemmas.List.Sums.{sum_by-cons}
use Rattle.std.proofs.lemmas.Option.{slice_get-get_or}
use Rattle.pls_streams.specs.declared.refusal_number.TheConstants.{UNREADABLE}
use Rattle.pls_streams.specs.declared.text_error.TextError.{TextError}
use Rattle.pls_streams.specs.declared.text_error.TextError.TheVariants.{Sense}
use Rattle.pls_streams.specs.declared.text_error.Quantity.TheVariants.{Bits}
use Rattle.pls_bits.specs.Delta.{delta_code, delta_takes}
use Rattle.pls_bits.specs.Gamma.{gamma_code, gamma_takes}
use Rattle.pls_bits.specs.declared.code_name.CodeName.{CodeName}
use Rattle.pls_bits.specs.declared.code_name.CodeName.TheVariants.{Delta, Gamma}
use Rattle.pls_bits.specs.laws.DeltaLaws.{delta_takes-code, delta_takes-only}
use Rattle.pls_bits.specs.laws.GammaLaws.{gamma_takes-code, gamma_takes-only}
use Rattle.pls_configuration.specs.declared.limits.TheConstants.{MAX_BITS}
use Rattle.pls_configuration.specs.declared.row.NodeRow.{NodeRow}
use Rattle.pls_configuration.specs.declared.status.Status.TheVariants.{Done}
use Rattle.pls_configuration.specs.declared.verdict.Verdict.{Verdict}
use Rattle.pls_configuration.specs.Configuration.{first_of, ids_of}
use Rattle.pls_labels.specs.Labels.{bits_together}
use Rattle.pls_labels.specs.Seen.{Seen}
use Rattle.pls_labelfile.specs.LabelsText.{AreLabels, Labelling, MayHead}
use Rattle.pls_labelfile.proofs.Named.{bare-named}
use Rattle.pls_names.specs.laws.Recoding.{Changes, IsCode, changed}
use Rattle.pls_sim.specs.declared.outcome.Outcome.{Outcome}
use Rattle.pls_sim.specs.declared.outcome.Outcome.TheVariants.{Decided}
use Rattle.pls_expressions.specs.Expression.{Expression}
use Rattle.pls_combine.specs.Converted.{all_converted, converted, first_unreadable}
use Rattle.pls_combine.specs.Expression.{judge_of}
use Rattle.pls_combine.specs.laws.ConvertedLaws.{expression_alike}
use Rattle.pls_combine.specs.laws.ConvertedRounds.{rounds_alike}
use Rattle.pls_inputs.specs.Order.{IsInput}
use Rattle.pls_inputs.specs.Parts.{Has, Input, code_in, labels_in, net_labels_text, parts_with_gamma, rows_in}
use Rattle.pls_inputs.proofs.Facts.{each, readable}
use Rattle.pls_inputs.proofs.WithinLimits.{few_of}
use Rattle.pls_app.specs.declared.command.Command.TheVariants.{With}
use Rattle.pls_app.specs.declared.command.Task.TheVariants.{Convert}
use Rattle.pls_app.specs.Answer.{Answers}
use Rattle.pls_app.specs.Convert.{converted_labels, convert_refusal}
use Rattle.pls_app.specs.Meant.{converted_in, judge_in}
use Rattle.pls_app.specs.Reports.{decided_by}
use Rattle.pls_app.specs.Run.{Converts}
use Rattle.pls_app.specs.Said.{Answer}
use Rattle.pls_app.proofs.Certified.{relabelled}
use Rattle.pls_app.proofs.Proved.{refused_not_done}

-- labels that have no other heading than `labels` have the gamma code
gamma_alone : (labels : Option Labelling) → Has true (AreLabels false) labels
    → option_map_or (λ said. said.code) labels Gamma ≡ Gamma
gamma_alone None has = absurd has
gamma_alone (Some said) has = by said.code has.code
  where
    by : (code : CodeName) → MayHead false code → code ≡ Gamma
    by Gamma may = refl
    by Delta may = absurd may

-- no place was raised
raised_none : (place : Option ℕ) → option_map (λ p. p + 1) place ≡ None → place ≡ None
raised_none None none = refl
raised_none (Some p) none = absurd (cc)

module _ (to : List Bool → Option (List Bool)) where
  -- the first that cannot be read is one of the labels
  unread_within : (labels : List (List Bool)) (place : ℕ) → first_unreadable to labels ≡ Some place
      → place < length labels
  unread_within [] place found = absurd (cc)
  unread_within (bits ∷ labels) place found =
      by (is_some (to bits)) (first_unreadable to labels) (λ p is. unread_within labels p is) found
    where
      by : (some : Bool) (later : Option ℕ)
          → ((p : ℕ) → later ≡ Some p → p < length labels)
          → (if some then option_map (λ p. p + 1) later else Some 0) ≡ Some place
          → place < length (bits ∷ labels)
      by true None within found = absurd (cc)
      by true (Some p) within found =
          let same : p + 1 ≡ place = cc in omega (arith, within p refl, same)
      by false later within found =
          let same : 0 ≡ place = cc in omega (arith, same)

  -- so where no node is named, all can be read
  none_named : (ids : List ℕ) (labels : List (List Bool)) → length labels ≡ length ids
      → option_map (λ id. Sense UNREADABLE id)
      (option_and_then (slice_get ids) (first_unreadable to labels)) ≡ None
      → first_unreadable to labels ≡ None
  none_named ids labels long none = by (first_unreadable to labels) refl none
    where
      by : (found : Option ℕ) → first_unreadable to labels ≡ found
          → option_map (λ id. Sense UNREADABLE id) (option_and_then (slice_get ids) found) ≡ None
          → found ≡ None
      by None is none = refl
      by (Some place) is none =
          let at = slice_get-get_or ids place 0
          (omega (arith, unread_within labels place is, long)) in
          absurd (let other = rw at at none in cc)

  -- each is changed to bits that are not too long
  each_changes : (labels : List (List Bool)) → first_unreadable to labels ≡ None
      → bits_together (all_converted to labels) ≤ MAX_BITS → All (Changes to) labels
  each_changes [] none few = All-nil (Changes to)
  each_changes (bits ∷ labels) none few =
      by (to bits) refl (λ later short. each_changes labels later short) none
    where
      by : (found : Option (List Bool)) → to bits ≡ found
          → (first_unreadable to labels ≡ None
          → bits_together (all_converted to labels) ≤ MAX_BITS → All (Changes to) labels)
          → (if is_some found then option_map (λ p. p + 1) (first_unreadable to labels) else Some 0)
          ≡ None → All (Changes to) (bits ∷ labels)
      by None is others none = absurd (cc)
      by (Some new) is others none =
          let sum = sum_by-cons (length {A = Bool}) (changed to bits) (all_converted to labels) in
          let here : changed to bits ≡ new = rw is refl in
          All-cons (Changes to) bits labels
          (record { new = new; is = is; short = omega (arith, few, sum, ap length here) })
          (others (raised_none (first_unreadable to labels) none) (omega (arith, few, sum)))

-- both codes are codes
gamma_is : IsCode gamma_code gamma_takes
gamma_is = record {
  taken = λ number rest small. gamma_takes-code number rest small;
  only = λ bits number rest taken. gamma_takes-only bits number rest taken;
}

delta_is : IsCode delta_code delta_takes
delta_is = record {
  taken = λ number rest small. delta_takes-code number rest small;
  only = λ bits number rest taken. delta_takes-only bits number rest taken;
}

both_none : (first second : Option TextError) → first_of (first ∷ second ∷ []) ≡ None
    → (first ≡ None) × (second ≡ None)
both_none None None none = (refl, refl)
both_none None (Some error) none = absurd (cc)
both_none (Some error) second none = absurd (cc)

module _ (scheme : Expression) (bytes : List ℕ) (input : Input)
    (is : IsInput parts_with_gamma bytes input) (accepted : convert_refusal scheme input ≡ None) where
  abbrev to : List Bool → Option (List Bool)
  to = converted gamma_takes delta_code scheme

  long : length (labels_in input) ≡ length (rows_in input)
  long = each parts_with_gamma bytes input is refl

  code_is : code_in input ≡ Gamma
  code_is = gamma_alone input.labels is.says.has.labels

  to_is : converted_in (code_in input) scheme ≡ to
  to_is = ap (λ (code : CodeName). converted_in code scheme) code_is

  labels_same : converted_labels scheme input ≡ map (changed to) (labels_in input)
  labels_same =
      ap (λ (to : List Bool → Option (List Bool)). all_converted to (labels_in input)) to_is

  few : bits_together (converted_labels scheme input) ≤ MAX_BITS
  few = few_of Bits MAX_BITS (bits_together (converted_labels scheme input))
      (both_none _ _ accepted).1

  all_change : All (Changes to) (labels_in input)
  all_change =
      let ids = ids_of (rows_in input) in
      let none : first_unreadable to (labels_in input) ≡ None =
      ap (λ (to : List Bool → Option (List Bool)). first_unreadable to (labels_in input)) (sym to_is)
      ∙ none_named (converted_in (code_in input) scheme) ids (labels_in input)
      (long ∙ sym (length-map (rows_in input) (λ (row : NodeRow). row.id)))
      (both_none _ _ accepted).0 in
      each_changes to (labels_in input) none
      (omega (arith, few, ap bits_together labels_same))

  -- the outcomes of `verify` are the same
  outcomes_alike : decided_by (judge_of delta_takes scheme) (rows_in input)
      (map (changed to) (labels_in input))
      ≡ decided_by (judge_of gamma_takes scheme) (rows_in input) (labels_in input)
  outcomes_alike =
      rounds_alike (rows_in input)
      (readable parts_with_gamma bytes input is refl).network (labels_in input) long (changed to)
      (Changes to) all_change
      (λ (view : Seen). (view.id, Decided (judge_of gamma_takes scheme view)))
      (λ (view : Seen). (view.id, Decided (judge_of delta_takes scheme view)))
      (λ view fits. ap (pair view.id)
      (expression_alike gamma_code delta_code gamma_takes delta_takes gamma_is delta_is scheme view
      fits))
    where
      pair : ℕ → Verdict → ℕ × Outcome
      pair id verdict = (id, Decided verdict)

  -- so the labels are converted
  converts : Converts scheme bytes
      (net_labels_text Delta (rows_in input) (converted_labels scheme input))
  converts =
      let rows : List NodeRow = rows_in input in
      let labels : List (List Bool) = converted_labels scheme input in
      let many : length labels ≡ length rows =
      length-map (labels_in input) (changed (converted_in (code_in input) scheme)) ∙ long in
      record {
        input = input;
        labels = labels;
        is = is;
        text_is = refl;
        read_back = relabelled parts_with_gamma bytes input is refl refl refl refl refl Delta labels
            many few;
        alike = ap (decided_by (judge_of delta_takes scheme) rows)
            (bare-named (ids_of rows) labels
            (many ∙ sym (length-map rows (λ (row : NodeRow). row.id))) ∙ labels_same)
            ∙ outcomes_alike
            ∙ sym (ap (λ (code : CodeName). decided_by (judge_in code scheme) rows (labels_in input))
            code_is);
      }

-- what `convert` answers with `Done`
pub done_converts : (scheme : Expression) (bytes : List ℕ) (answer : Answer)
    → Answers (With Convert scheme) bytes answer → answer.status ≡ Done
    → Converts scheme bytes answer.text
done_converts scheme bytes answer answers done = elim answers [
  | inl refused ↦
      absurd (refused_not_done refused.0
      (sym (ap (λ (answer : Answer). answer.status) refused.2) ∙ done))
  | inr works ↦
      subst (Converts scheme bytes) (sym (ap (λ (answer : Answer). answer.text) works.yields))
      (converts scheme bytes works.input works.is works.takes.accepted)
]
