use Rattle.std.proofs.Common.{◌++◌, List, ℕ, codes, decimal, subst}
use Rattle.pls_report.specs.Report.{rejecting, waiting}
use Rattle.pls_streams.specs.Gathered.{Writes, WroteFront}
use Rattle.pls_report.specs.inner.Pieces.{waiting_tail}
use Rattle.pls_streams.proofs.Written.{both, failed, front_first, front_later, wrote_both}
use Rattle.pls_report.proofs.Texts.{closing_text}
use Rattle.pls_report.proofs.report.write_closing.Goals as goal

pub returns : goal.returns
returns g c =
    let rows = c.args.rows.now in
    let tail = waiting_tail c.args.simulated (waiting rows) in
    let front : List ℕ = codes "rejecting " ++ decimal (rejecting rows) in
    let one = rw c.rejecting.ensures at c.in_ok-put_numbered.ensures in
    let two = rw c.waiting.ensures at c.in_ok-put_waiting.ensures in
    subst (Writes _ _ _ _ _ _ _ _ c.put.result) (closing_text c.args.simulated rows)
    (both _ _ _ _ c.put.result (front ++ tail) (codes "\n")
    (wrote_both front tail one two) c.put.ensures)

pub returns-in_err-put_numbered : goal.returns-in_err-put_numbered
returns-in_err-put_numbered g c =
    let rows = c.args.rows.now in
    let tail = waiting_tail c.args.simulated (waiting rows) in
    let front : List ℕ = codes "rejecting " ++ decimal (rejecting rows) in
    let one = rw c.rejecting.ensures at c.in_err-put_numbered.ensures in
    failed _ _ c.from_residual.result _ c.from_residual.ensures.0
    (subst (WroteFront _ _ _ _ _ _) (closing_text c.args.simulated rows)
    (front_first (front ++ tail) (codes "\n") (front_first front tail one)))

pub returns-in_err-put_waiting : goal.returns-in_err-put_waiting
returns-in_err-put_waiting g c =
    let rows = c.args.rows.now in
    let tail = waiting_tail c.args.simulated (waiting rows) in
    let front : List ℕ = codes "rejecting " ++ decimal (rejecting rows) in
    let one = rw c.rejecting.ensures at c.in_ok-put_numbered.ensures in
    let two = rw c.waiting.ensures at c.in_err-put_waiting.ensures in
    failed _ _ c.from_residual-in_err-put_waiting.result _ c.from_residual-in_err-put_waiting.ensures.0
    (subst (WroteFront _ _ _ _ _ _) (closing_text c.args.simulated rows)
    (front_first (front ++ tail) (codes "\n")
    (front_later front tail one two)))
