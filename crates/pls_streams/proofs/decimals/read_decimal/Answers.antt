use Rattle.std.proofs.Common.{arith}
use Rattle.std.proofs.lemmas.Bool.{iff_false}
use Rattle.pls_streams.proofs.Numerals.{numeral_from_decimal}
use Rattle.pls_streams.proofs.decimals.read_decimal.Goals as goal

pub returns-then-not-is_plain-clause-none : goal.returns-then-not-is_plain-clause-none
returns-then-not-is_plain-clause-none c number within spelled =
    let numeral =
    numeral_from_decimal c.args.text.now number (omega (arith, c.ranges.most.fits)) spelled in
    iff_false c.is_plain.ensures c.if-not-is_plain.true (numeral.some, numeral.zero_alone)
