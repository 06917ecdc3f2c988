use Rattle.std.proofs.Common.{decimal}
use Rattle.pls_streams.proofs.Written.{both, failed, front_first}
use Rattle.pls_streams.proofs.gathered.Gathered.put_numbered.Goals as goal

pub returns : goal.returns
returns g c =
    both _ _ _ _ c.put_number.result c.args.bytes.now (decimal c.args.number) c.in_ok-put.ensures
    c.put_number.ensures

pub returns-in_err-put : goal.returns-in_err-put
returns-in_err-put g c =
    failed _ _ c.from_residual.result _ c.from_residual.ensures.0
    (front_first c.args.bytes.now (decimal c.args.number) c.in_err-put.ensures)
