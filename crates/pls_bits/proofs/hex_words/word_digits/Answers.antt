use Rattle.pls_bits.specs.Hex.{hex_digits}
use Rattle.pls_bits.proofs.Lanes.{lanes_text}
use Rattle.pls_bits.proofs.WordBytes.{bytes_of-word}
use Rattle.pls_bits.proofs.hex_words.word_digits.Goals as goal

pub returns : goal.returns
unfolding hex_digits
returns c = rw (c.to_be_bytes-bytes.ensures, bytes_of-word c.args.word) (lanes_text 8 c.args.word)
