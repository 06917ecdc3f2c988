use Rattle.pls_lines.proofs.WholeTexts.{one_first_fault}
use Rattle.pls_labelfile.specs.LabelsText.{IsLabelsPart}
use Rattle.pls_labelfile.proofs.laws.one_first_fault.Goals as goal

pub returns : goal.returns
returns c = λ delta. one_first_fault (IsLabelsPart delta)
