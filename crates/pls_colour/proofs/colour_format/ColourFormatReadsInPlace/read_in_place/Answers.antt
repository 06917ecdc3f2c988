use Rattle.std.proofs.Common.{◌∙◌, sym}
use Rattle.pls_colour.specs.laws.ColourLaws.{colour_read, no_colour_read}
use Rattle.pls_colour.proofs.colour_format.ColourFormatReadsInPlace.read_in_place.Goals as goal

pub returns-then-len-eq1 : goal.returns-then-len-eq1
returns-then-len-eq1 g c =
    colour_read g.C.NumCode.takes c.args.bits.now c.bit.result
    (sym c.len.ensures ∙ c.if-len-eq1.true) c.bit.ensures

pub returns-else-len-eq1 : goal.returns-else-len-eq1
returns-else-len-eq1 g c =
    no_colour_read g.C.NumCode.takes c.args.bits.now
    (λ one. c.if-len-eq1.false (c.len.ensures ∙ one))
