use Rattle.pls_lines.proofs.ListRead.{none_left, one_less}
use Rattle.pls_labelfile.specs.LabelsText.{FitsLabel, label_line}
use Rattle.pls_labelfile.specs.laws.LabelLaws.{label_lines}
use Rattle.pls_labelfile.proofs.labels_build.next_label.Goals as goal

pub returns-in_err-label-clause-none : goal.returns-in_err-label-clause-none
returns-in_err-label-clause-none c =
    rw c.from_residual.ensures
    (λ labels remains. none_left FitsLabel label_line label_lines c.args.lines.now.rest labels
    (rw c.rest.ensures.rest at c.in_err-label.ensures.none) remains)

pub pass_to-requires : goal.pass_to-requires
pass_to-requires c =
    (label_line c.in_ok-label.label, rw c.rest.ensures.rest at c.in_ok-label.ensures.stands)

pub returns-clause-next : goal.returns-clause-next
returns-clause-next c = λ labels remains.
    one_less FitsLabel label_line label_lines c.args.lines.now c.pass_to.new.self
    c.in_ok-label.label labels c.in_ok-label.ensures.fits
    (c.pass_to.ensures.passed (label_line c.in_ok-label.label)
    (rw c.rest.ensures.rest at c.in_ok-label.ensures.stands)) remains

pub returns-clause-said : goal.returns-clause-said
returns-clause-said c =
    let next = returns-clause-next c c.requires.0 c.requires.1 in
    (next.more, next.remains)
