-- The labels part: it tells where it ends, and its text fixes its labels.
use Rattle.std.proofs.Common.{◌≡◌, ℕ, Bool, true, List, [], ◌∷◌, ◌++◌, codes, sym, ◌∙◌, ap, append-nil}
use Rattle.std.specs.List.{All}
use Rattle.pls_lines.specs.Part.{IsPart}
use Rattle.pls_lines.specs.ListPart.{Remains}
use Rattle.pls_lines.specs.laws.ListLaws.{is_list_part}
use Rattle.pls_lines.proofs.ListRead.{one_list}
use Rattle.pls_bits.specs.declared.code_name.CodeName.{CodeName}
use Rattle.pls_bits.specs.declared.code_name.CodeName.TheVariants.{Delta, Gamma}
use Rattle.pls_labelfile.specs.LabelsText.{AreLabels, FitsLabel, IsLabelsPart, Labelling, MayHead, NamedLabel, label_line, labelling_of, labels_heading_text, labels_lines, labels_text}
use Rattle.pls_labelfile.specs.LabelsScan.{TellsLabels}
use Rattle.pls_labelfile.specs.laws.LabelLaws.{label_lines, labels_headings, labels_list, labels_some_part}

-- a labels part has plain lines, and none begins another
pub labels_part : (delta : Bool) → IsPart (IsLabelsPart delta)
labels_part delta = (labels_some_part delta).part

-- the lines of labels that can stand in a part are one
pub is_labels_part : (delta : Bool) (said : Labelling) → AreLabels delta said
    → IsLabelsPart delta (labels_lines said)
is_labels_part delta said are =
    is_list_part (MayHead delta) labels_heading_text FitsLabel label_line (All FitsLabel)
    (labels_headings delta) label_lines (labels_list delta) said.code said.labels are.code are.fits

-- where the delta code may stand, each code may
pub either_may : (code : CodeName) → MayHead true code
either_may Gamma = tt
either_may Delta = tt

-- a text fixes its labels and their code, and what follows them
pub one_labels : (a b : Labelling) (x y : List ℕ) → All FitsLabel a.labels → All FitsLabel b.labels
    → labels_text a ++ x ≡ labels_text b ++ y → (a ≡ b) × (x ≡ y)
one_labels a b x y p q e =
    let one =
    one_list (MayHead true) labels_heading_text FitsLabel label_line (All FitsLabel)
    (labels_headings true) label_lines (labels_list true) a.code b.code a.labels b.labels x y
    (either_may a.code) (either_may b.code) p q e in
    let code = one.heading in
    let labels = one.items in
    (λ i. record { code = code i; labels = labels i }, one.behind)

-- one text says one list of labels, under one code
pub one_told : (text : List ℕ) (a b : Labelling) → TellsLabels text a → TellsLabels text b → a ≡ b
one_told text a b p q =
    (one_labels a b [] [] p.fits q.fits
    (append-nil (labels_text a) ∙ sym p.is ∙ q.is ∙ sym (append-nil (labels_text b)))).0

-- what a text says behind its heading is told by it
pub one_remains : (text : List ℕ) (a b : List NamedLabel) → Remains FitsLabel label_line text a
    → Remains FitsLabel label_line text b → a ≡ b
one_remains text a b p q =
    ap (λ (said : Labelling). said.labels)
    (one_told (codes "labels" ++ 10 ∷ text) (labelling_of Gamma a) (labelling_of Gamma b)
    (record { fits = p.fits; is = ap (λ (rest : List ℕ). codes "labels" ++ 10 ∷ rest) p.is })
    (record { fits = q.fits; is = ap (λ (rest : List ℕ). codes "labels" ++ 10 ∷ rest) q.is }))
