use Rattle.std.proofs.Common.{arith}
use Rattle.pls_bits.proofs.DeltaBits.{behind_one-seen, seen_fits}
use Rattle.pls_bits.proofs.delta.digits_behind_one.Goals as goal

pub overflow_add-result : goal.overflow_add-result
overflow_add-result c =
    let fits = seen_fits c.ahead-ahead.result c.args.count c.args.cursor.now c.ahead-ahead.type_inv
    c.ahead-ahead.ensures (omega arith) (omega arith) in
    omega (arith, fits)

pub returns : goal.returns
returns c =
    rw c.skip.ensures (behind_one-seen c.ahead-ahead.result c.args.count c.args.cursor.now
    c.ahead-ahead.type_inv c.ahead-ahead.ensures (omega arith) (omega arith))
