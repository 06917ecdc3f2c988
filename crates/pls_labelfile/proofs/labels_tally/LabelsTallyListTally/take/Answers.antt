use Rattle.pls_lines.proofs.ListOfAll.{begun_push}
use Rattle.pls_labelfile.specs.LabelsText.{FitsLabel}
use Rattle.pls_labelfile.proofs.labels_tally.LabelsTallyListTally.take.Goals as goal

pub returns-clause-begun : goal.returns-clause-begun
returns-clause-begun c = λ front begun counted.
    begun_push FitsLabel front c.args.item.now begun c.requires
