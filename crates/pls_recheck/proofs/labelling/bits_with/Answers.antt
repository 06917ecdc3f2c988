use Rattle.std.proofs.Common.{arith}
use Rattle.pls_recheck.proofs.Relabelled.{part_of_total, with_label}
use Rattle.pls_recheck.proofs.labelling.bits_with.Goals as goal

pub overflow_sub-others : goal.overflow_sub-others
overflow_sub-others c =
    omega (
      arith,
      part_of_total c.args.labels.now c.args.i c.bits.result c.bits.ensures,
      c.total.ensures,
      c.len.ensures,
    )

pub returns : goal.returns
returns c =
    omega (
      arith,
      part_of_total c.args.labels.now c.args.i c.bits.result c.bits.ensures,
      with_label c.args.labels.now c.args.i c.bits.result c.args.bits.now c.bits.ensures,
      c.total.ensures,
      c.len.ensures,
      c.len-2.ensures,
      c.saturating_add.ensures,
    )
