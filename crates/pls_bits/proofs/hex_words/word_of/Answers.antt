use Rattle.std.proofs.Common.{◌∙◌, arith}
use Rattle.std.proofs.lemmas.List.{take_all}
use Rattle.pls_bits.proofs.HexWords.{word_text}
use Rattle.pls_bits.proofs.Lanes.{all_bytes}
use Rattle.pls_bits.proofs.hex_words.word_of.Goals as goal

pub eight_bytes-requires-clause-lower : goal.eight_bytes-requires-clause-lower
eight_bytes-requires-clause-lower c =
    rw (take_all 16 c.args.digits.now (omega (arith, c.requires.long))) c.requires.lower

pub returns : goal.returns
returns c =
    word_text c.args.digits.now c.eight_bytes.result c.from_be_bytes.result c.requires.long
    (c.eight_bytes.ensures.text ∙ take_all 16 c.args.digits.now (omega (arith, c.requires.long)))
    (all_bytes c.eight_bytes.result c.eight_bytes.ensures.small) c.from_be_bytes.ensures
