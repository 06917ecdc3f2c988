use Rattle.std.proofs.Common.{arith}
use Rattle.std.proofs.lemmas.Fmt.{length-decimal-le}
use Rattle.pls_streams.proofs.decimals.write_decimal.Goals as goal

pub put_digits-requires : goal.put_digits-requires
put_digits-requires c =
    omega (
      arith,
      length-decimal-le 20 c.args.value (omega arith)
          (omega (arith, c.ranges.value.fits)) (omega (arith, c.ranges.value.fits)),
      c.told-into,
    )
