use Rattle.std.proofs.Common.{ap, ◌∙◌}
use Rattle.pls_bits.specs.Hex.{hex_digits}
use Rattle.pls_bits.proofs.bit_buf.BitBuf.of_hex.Goals as goal

pub returns-clause-written : goal.returns-clause-written
returns-clause-written c =
    let spelled = c.requires in
    let put = c.in_ok-append_hex.ensures.put spelled.bits spelled.long spelled.written in
    ap hex_digits (rw c.in_ok-words.ensures.items at put) ∙ spelled.written
