use Rattle.std.proofs.Common.{sym, ◌∙◌}
use Rattle.pls_bits.proofs.Text.{hex_digits-injective}
use Rattle.pls_labelfile.proofs.label_line.LabelLine.to_bits.Goals as goal

pub returns-in-Ok : goal.returns-in-Ok
returns-in-Ok c =
    hex_digits-injective c.in-Ok.bits c.args.self.now.bits (c.in-Ok.ensures.long ∙ c.len.ensures)
    (c.in-Ok.ensures.written ∙ sym c.digits.ensures)
