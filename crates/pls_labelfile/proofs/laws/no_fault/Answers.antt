use Rattle.pls_lines.proofs.WholeTexts.{no_fault}
use Rattle.pls_labelfile.specs.LabelsText.{IsLabelsPart, labels_lines}
use Rattle.pls_labelfile.proofs.LabelsPart.{labels_part, is_labels_part}
use Rattle.pls_labelfile.proofs.laws.no_fault.Goals as goal

pub returns : goal.returns
returns c = λ delta said rest old k are stands fault.
    no_fault (IsLabelsPart delta) (labels_lines said) rest old k (labels_part delta)
    (is_labels_part delta said are) stands fault
