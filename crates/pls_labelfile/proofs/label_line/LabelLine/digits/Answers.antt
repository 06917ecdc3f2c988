use Rattle.std.proofs.Common.{sym, ◌∙◌, ap}
use Rattle.pls_bits.specs.Hex.{hex_digits}
use Rattle.pls_labelfile.specs.LabelsText.{NamedLabel}
use Rattle.pls_labelfile.proofs.HexWords.{digits_of_none, digits_of_some}
use Rattle.pls_labelfile.proofs.label_line.LabelLine.digits.Goals as goal

pub returns-then-self-eq0 : goal.returns-then-self-eq0
returns-then-self-eq0 c =
    ap (λ (label : NamedLabel). hex_digits label.bits) (sym c.self.view_is)
    ∙ digits_of_none c.self.inside.len c.self.inside.hex.now c.self.invariant c.if-self-eq0.true

pub returns-else-self-eq0 : goal.returns-else-self-eq0
returns-else-self-eq0 c =
    ap (λ (label : NamedLabel). hex_digits label.bits) (sym c.self.view_is)
    ∙ digits_of_some c.self.inside.len c.self.inside.hex.now c.self.invariant c.if-self-eq0.false
