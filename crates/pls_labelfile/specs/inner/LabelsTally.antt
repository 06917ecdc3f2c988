-- What is counted of labels while they are passed.
use Rattle.std.specs.Prelude.{List}
use Rattle.pls_labelfile.specs.LabelsText.{NamedLabel}
use Rattle.pls_labelfile.specs.LabelsScan.{total_bits}
use Rattle.pls_streams.specs.Steps.{capped}
use Rattle.pls_labelfile.specs.declared.labels_tally.LabelsTally.{LabelsTally}

-- the bits of all labels
abbrev pub labels_tally : List NamedLabel → LabelsTally
labels_tally labels = record { bits = capped (total_bits labels) }
