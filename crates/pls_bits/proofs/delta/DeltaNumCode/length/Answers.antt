use Rattle.std.proofs.Common.{◌≡◌, ◌+◌, length, arith}
use Rattle.pls_bits.specs.Delta.{delta_code}
use Rattle.pls_bits.specs.Gamma.{gamma_code}
use Rattle.pls_bits.specs.laws.DeltaLaws.{length-delta_code}
use Rattle.pls_bits.specs.laws.GammaLaws.{gamma_short}
use Rattle.pls_bits.proofs.delta.DeltaNumCode.length.Goals as goal

pub overflow_add-result : goal.overflow_add-result
overflow_add-result c =
    let bound = c.log_of_next-count.ensures.small in
    let count = gamma_short c.log_of_next-count.result in
    omega (arith, c.length.ensures, bound, count)

pub returns : goal.returns
returns c =
    let long = length-delta_code c.args.number in
    let count = c.length.ensures in
    let same : length (delta_code c.args.number)
    ≡ length (gamma_code c.log_of_next-count.result) + c.log_of_next-count.result =
    rw c.log_of_next-count.ensures.value long in
    omega (arith, same, count)
