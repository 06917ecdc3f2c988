use Rattle.std.proofs.Common.{length, sym, ◌∙◌, ap}
use Rattle.pls_labelfile.specs.LabelsText.{NamedLabel}
use Rattle.pls_labelfile.proofs.HexWords.{bits_long}
use Rattle.pls_labelfile.proofs.label_line.LabelLine.len.Goals as goal

pub returns : goal.returns
returns c =
    sym (bits_long c.self.inside.len c.self.inside.hex.now c.self.invariant)
    ∙ ap (λ (label : NamedLabel). length label.bits) c.self.view_is
