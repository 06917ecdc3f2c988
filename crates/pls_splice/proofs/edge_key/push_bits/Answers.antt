use Rattle.std.proofs.Common.{◌∙◌, ◌+◌, ◌++◌, Bool, List, drop, ap, sym}
use Rattle.pls_splice.specs.inner.Keys.{full_words, last_word}
use Rattle.pls_splice.proofs.Rounding.{from_here}
use Rattle.pls_splice.proofs.edge_key.push_bits.Goals as goal

pub loop-i-preserved : goal.loop-i-preserved
loop-i-preserved c =
    let bits = c.args.bits.now in
    let rest = drop (c.loop-i.i + 1) bits in
    let here = from_here bits c.loop-i.i c.bit.result c.bit.ensures in (
      c.in_ok-last.ensures.last rest
          ∙ ap (λ (bits : List Bool). last_word c.loop-i.last bits) (sym here)
          ∙ c.loop-i.invariant.0,
      c.in_ok-last.ensures.words rest
          ∙ ap (λ (bits : List Bool). c.loop-i.key.items ++ full_words c.loop-i.last bits) (sym here)
          ∙ c.loop-i.invariant.1,
    )
