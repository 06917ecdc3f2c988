use Rattle.pls_labelfile.proofs.LabelsPart.{one_labels}
use Rattle.pls_labelfile.proofs.laws.text_fixes_labels.Goals as goal

pub returns : goal.returns
returns c = one_labels
