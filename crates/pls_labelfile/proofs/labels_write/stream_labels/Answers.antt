use Rattle.pls_streams.proofs.Written.{part_of}
use Rattle.pls_configuration.specs.Configuration.{ids_of}
use Rattle.pls_labelfile.specs.LabelsText.{labelling_of, labels_text, named}
use Rattle.pls_labelfile.proofs.labels_write.stream_labels.Goals as goal

pub returns-clause-part : goal.returns-clause-part
returns-clause-part g c =
    let text = labels_text (labelling_of c.args.code (named (ids_of c.args.net.now) c.args.labels.now)) in
    let lines = rw c.new-gathered.ensures at c.in_ok-put_lines.ensures in
    part_of _ _ _ _ c.flush.result text lines c.flush.ensures.writes
