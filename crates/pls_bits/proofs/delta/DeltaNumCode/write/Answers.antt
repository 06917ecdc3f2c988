use Rattle.std.proofs.Common.{arith}
use Rattle.pls_bits.specs.laws.DeltaLaws.{floor_log-count}
use Rattle.pls_bits.proofs.DeltaBits.{count-lt, delta_code-digits, low-lt, power-le}
use Rattle.pls_bits.proofs.delta.DeltaNumCode.write.Goals as goal

pub overflow_sub-digits : goal.overflow_sub-digits
overflow_sub-digits c =
    rw c.log_of_next-count.ensures.value (power-le c.args.number c.requires)

pub push_digits-requires-clause-front : goal.push_digits-requires-clause-front
push_digits-requires-clause-front c =
    rw c.log_of_next-zeros.ensures.value
    (count-lt c.log_of_next-count.result c.log_of_next-count.ensures.small)

pub push_digits-requires-clause-front_few : goal.push_digits-requires-clause-front_few
push_digits-requires-clause-front_few c =
    let zeros = floor_log-count c.log_of_next-count.result c.log_of_next-count.ensures.small in
    let value = c.log_of_next-zeros.ensures.value in
    omega (arith, zeros, value)

pub push_digits-requires-clause-small : goal.push_digits-requires-clause-small
push_digits-requires-clause-small c =
    rw c.log_of_next-count.ensures.value (low-lt c.args.number c.requires)

pub returns-clause-written : goal.returns-clause-written
returns-clause-written c =
    rw (← delta_code-digits c.args.number c.requires)
    (rw (c.log_of_next-zeros.ensures.value, c.log_of_next-count.ensures.value)
    at c.push_digits.ensures.pushed)
