use Rattle.std.proofs.Common.{◌≡◌, List, length}
use Rattle.pls_configuration.specs.Configuration.{ids_of}
use Rattle.pls_lines.specs.ListPart.{Remains}
use Rattle.pls_labelfile.specs.LabelsText.{FitsLabel, NamedLabel, label_line}
use Rattle.pls_labelfile.specs.inner.HexWord.{SaysLabels}
use Rattle.pls_labelfile.proofs.Filled.{Filled}
use Rattle.pls_labelfile.proofs.labels_build.fill.Given as goal

abbrev pub invariant-loop-place : goal.invariant-loop-place
invariant-loop-place l = record {
  long : length l.room.labels ≡ length l.net;
  filled : (labels : List NamedLabel) → Remains FitsLabel label_line l.fn.lines.rest labels
      → Filled (ids_of l.net) labels l.lines.rest l.room.labels l.place l.room.spare;
  said : SaysLabels l.lines.rest;
}
