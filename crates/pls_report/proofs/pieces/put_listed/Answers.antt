use Rattle.pls_streams.proofs.Written.{both, failed, front_first}
use Rattle.pls_report.proofs.pieces.put_listed.Goals as goal

pub returns-in_err-put : goal.returns-in_err-put
returns-in_err-put g c =
    failed _ _ c.from_residual.result _ c.from_residual.ensures.0
    (front_first _ _ c.in_err-put.ensures)

pub returns : goal.returns
returns g c =
    both _ _ _ _ c.put_spaced.result _ _ c.in_ok-put.ensures c.put_spaced.ensures
