-- With which error the labels of a text are refused.
use Rattle.std.proofs.Common.{◌≡◌, ℕ, ◌<◌, ◌≤◌, ◌^◌, nat_lt, true, false, List, Some, refl, ◌∙◌, ap, arith}
use Rattle.std.specs.Option.{option_map}
use Rattle.std.proofs.lemmas.Bool.{lt-ltb, le-ltb}
use Rattle.pls_streams.specs.declared.text_error.TextError.TheVariants.{Limit}
use Rattle.pls_streams.specs.declared.text_error.Quantity.TheVariants.{Bits}
use Rattle.pls_labelfile.specs.LabelsText.{Labelling, labelling_of}
use Rattle.pls_labelfile.specs.LabelsScan.{HasLabels, TellsLabels, WrittenLabels, total_bits}
use Rattle.pls_streams.specs.Steps.{capped}
use Rattle.pls_labelfile.specs.Misfit.{misfit}
use Rattle.pls_labelfile.specs.Refusal.{misfit_error, labels_refusal}
use Rattle.pls_labelfile.proofs.LabelsPart.{one_told}

-- the sum of the lengths that was kept is that of the labels
kept_sum : (written : WrittenLabels) → HasLabels written → (said : Labelling)
    → TellsLabels written.text said
    → written.bits ≡ capped (total_bits said.labels)
kept_sum written told said tells =
    told.sum ∙ ap (λ (other : Labelling). capped (total_bits other.labels))
    (one_told written.text (labelling_of written.code told.labels) said told.tells tells)

-- the labels have too many bits
pub over_limit : (ids : List ℕ) (written : WrittenLabels) → HasLabels written → 2 ^ 28 < written.bits
    → (said : Labelling) → TellsLabels written.text said
    → labels_refusal ids written.number said.labels ≡ Some (Limit Bits)
over_limit ids written told over said tells =
    let test : nat_lt (2 ^ 28) (total_bits said.labels) ≡ true =
    lt-ltb (2 ^ 28) (total_bits said.labels) (omega (arith, kept_sum written told said tells)) in
    rw test refl

-- the labels have few enough bits, and the nodes decide
pub within_limit : (ids : List ℕ) (written : WrittenLabels) → HasLabels written → written.bits ≤ 2 ^ 28
    → (said : Labelling) → TellsLabels written.text said
    → labels_refusal ids written.number said.labels
    ≡ option_map (misfit_error written.number) (misfit ids said.labels)
within_limit ids written told few said tells =
    let test : nat_lt (2 ^ 28) (total_bits said.labels) ≡ false =
    le-ltb (2 ^ 28) (total_bits said.labels) (omega (arith, kept_sum written told said tells)) in
    rw test refl
