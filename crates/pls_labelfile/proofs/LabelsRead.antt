-- A text that is to be one labels part, read for the nodes of a network.
use Rattle.std.proofs.Common.{◌≡◌, ℕ, ◌^◌, ◌↔◌, nat_lt, Bool, true, false, List, length, Option, Some, None, if◌then◌else◌, sym, ◌∙◌, ap, subst, arith}
use Rattle.std.specs.Prelude.{Result, IfErr}
use Rattle.std.specs.Option.{option_map}
use Rattle.std.specs.Result.{IsErrOf}
use Rattle.std.proofs.lemmas.List.{length-map}
use Rattle.std.proofs.lemmas.Result.{IfErr-at_err}
use Rattle.pls_streams.specs.declared.text_error.TextError.{TextError}
use Rattle.pls_streams.specs.declared.text_error.TextError.TheVariants.{Form, Limit}
use Rattle.pls_streams.specs.declared.text_error.Quantity.TheVariants.{Bits}
use Rattle.pls_lines.specs.Fault.{IsFirstFault}
use Rattle.pls_lines.specs.Part.{PassesWhole}
use Rattle.pls_lines.proofs.WholeTexts.{whole_text}
use Rattle.pls_labelfile.specs.LabelsText.{IsLabelsPart, Labelling, NamedLabel, labelling_of, labels_lines, named}
use Rattle.pls_labelfile.specs.LabelsScan.{PassesPart, TellsLabels, WrittenLabels, total_bits}
use Rattle.pls_labelfile.specs.Misfit.{misfit}
use Rattle.pls_labelfile.specs.Refusal.{IsLabelsRefusal, misfit_error, labels_refusal}
use Rattle.pls_labelfile.proofs.Filled.{bare}
use Rattle.pls_labelfile.proofs.Misfits.{names_of}
use Rattle.pls_labelfile.proofs.Named.{named-parts}
use Rattle.pls_labelfile.proofs.LabelsPart.{either_may, is_labels_part}

-- a text that is one labels part is the one that was kept of it
whole_kept : (text : List ℕ) (written : WrittenLabels) → PassesWhole (PassesPart true) text written
    → text ≡ written.text
whole_kept text written whole =
    whole_text text whole.now (labels_lines (labelling_of written.code whole.passed.labels)) whole.passed.passed whole.none
    ∙ sym whole.passed.tells.is

-- a text with a first faulty line says no labels
pub no_labels_told : (text : List ℕ) (line : ℕ) → IsFirstFault (IsLabelsPart true) text line
    → (said : Labelling)
    → TellsLabels text said → ⊥
no_labels_told text line fault said tells =
    fault.2.none (labels_lines said)
    (is_labels_part true said (record { fits = tells.fits; code = either_may said.code })) tells.is

-- no labels are refused by a form
refusal_no_form : (ids : List ℕ) (heading : ℕ) (labels : List NamedLabel) (line : ℕ)
    → labels_refusal ids heading labels ≡ Some (Form line) → ⊥
refusal_no_form ids heading labels line e =
    by (nat_lt (2 ^ 28) (total_bits labels)) (misfit ids labels) e
  where
    by : (over : Bool) (place : Option ℕ)
        → (if over then Some (Limit Bits) else option_map (misfit_error heading) place)
        ≡ Some (Form line) → ⊥
    by true place e = cc
    by false None e = cc
    by false (Some place) e = cc

-- ---- the answers, where the part is all of the text

module _ (text : List ℕ) (written : WrittenLabels)
    (whole : PassesWhole (PassesPart true) text written) where
  -- what the text says, which is what the part does
  abbrev said : Labelling
  said = labelling_of written.code whole.passed.labels

  told : TellsLabels written.text said
  told = whole.passed.tells

  tells : TellsLabels text said
  tells = subst (λ (t : List ℕ). TellsLabels t said) (sym (whole_kept text written whole)) told

  -- the answer to a text of labels is no form
  pub form_never : {V : Type 0} (answer : Result V TextError) (ids : List ℕ)
      → ((said : Labelling) → TellsLabels written.text said
      → IfErr answer (λ error. IsLabelsRefusal ids written.number said.labels error))
      → (line : ℕ) → IsErrOf answer (Form line) ↔ IsFirstFault (IsLabelsPart true) text line
  form_never answer ids refused line = (
    λ e.
        absurd (refusal_no_form ids written.number said.labels line
        (IfErr-at_err (λ error. IsLabelsRefusal ids written.number said.labels error) e
        (refused said told))),
    λ fault. absurd (no_labels_told text line fault said tells),
  )

  module _ (ids : List ℕ) (store : List (List Bool))
      (bits : (said : Labelling) → TellsLabels written.text said → store ≡ bare said.labels)
      (names : (said : Labelling) → TellsLabels written.text said → names_of said.labels ≡ ids) where
    -- the bits of labels that name the nodes say the text
    pub store_told : TellsLabels text (labelling_of written.code (named ids store))
    store_told =
        let labels : named ids store ≡ said.labels =
        rw (bits said told, ← names said told) (named-parts said.labels) in
        subst (TellsLabels text) (sym (ap (labelling_of written.code) labels)) tells

    -- and there is one label for each node
    pub store_long : length store ≡ length ids
    store_long =
        omega (
          arith,
          ap length (bits said told),
          ap length (names said told),
          length-map said.labels (λ label. label.bits),
          length-map said.labels (λ label. label.id),
        )
