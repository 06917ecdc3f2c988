use Rattle.pls_labelfile.proofs.Headings.{no_heading}
use Rattle.pls_labelfile.proofs.labels_heading.LabelsHeadingLineKind.read.Goals as goal

pub returns-in_err-rest-clause-none : goal.returns-in_err-rest-clause-none
returns-in_err-rest-clause-none c =
    rw c.from_residual.ensures
    (no_heading c.args.text.now c.in_default.ensures.none c.in_err-rest.ensures.none)
