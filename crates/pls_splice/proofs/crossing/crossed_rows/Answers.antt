use Rattle.std.proofs.Common.{◌<◌, length, arith}
use Rattle.pls_splice.specs.Crossing.{cross_row}
use Rattle.pls_splice.proofs.Rounding.{row_more}
use Rattle.pls_splice.proofs.crossing.crossed_rows.Goals as goal

pub loop-i-preserved : goal.loop-i-preserved
loop-i-preserved c =
    let within : c.loop-i.i < length c.args.net.now =
    let less = c.loop-i-test.true in let many = c.len-i-end.ensures.len in omega arith in
    row_more (cross_row c.args.ends) c.args.net.now c.loop-i.i c.loop-i.rows
    c.put_row.new.rows within c.in_ok-put_row.ensures c.loop-i.invariant
