use Rattle.std.proofs.Common.{◌++◌, List, ℕ, codes, decimal, subst}
use Rattle.pls_sim.specs.declared.outcome.Outcome.TheVariants.{Waiting}
use Rattle.pls_streams.specs.Gathered.{Writes, WroteFront}
use Rattle.pls_report.specs.inner.Pieces.{outcome_tail}
use Rattle.pls_streams.proofs.Written.{both, failed, front_first, front_later, wrote_both}
use Rattle.pls_report.proofs.Texts.{node_text}
use Rattle.pls_report.proofs.report.write_waiting_node.Goals as goal

pub returns : goal.returns
returns g c =
    let tail = outcome_tail (Waiting c.args.ports.now) in
    let front : List ℕ = codes "node " ++ decimal c.args.id in
    subst (Writes _ _ _ _ _ _ _ _ c.put.result) (node_text c.args.id (Waiting c.args.ports.now))
    (both _ _ _ _ c.put.result (front ++ tail) (codes "\n")
    (wrote_both front tail c.in_ok-put_numbered.ensures c.in_ok-put_listed.ensures) c.put.ensures)

pub returns-in_err-put_numbered : goal.returns-in_err-put_numbered
returns-in_err-put_numbered g c =
    let tail = outcome_tail (Waiting c.args.ports.now) in
    let front : List ℕ = codes "node " ++ decimal c.args.id in
    failed _ _ c.from_residual.result _ c.from_residual.ensures.0
    (subst (WroteFront _ _ _ _ _ _) (node_text c.args.id (Waiting c.args.ports.now))
    (front_first (front ++ tail) (codes "\n") (front_first front tail c.in_err-put_numbered.ensures)))

pub returns-in_err-put_listed : goal.returns-in_err-put_listed
returns-in_err-put_listed g c =
    let tail = outcome_tail (Waiting c.args.ports.now) in
    let front : List ℕ = codes "node " ++ decimal c.args.id in
    failed _ _ c.from_residual-in_err-put_listed.result _ c.from_residual-in_err-put_listed.ensures.0
    (subst (WroteFront _ _ _ _ _ _) (node_text c.args.id (Waiting c.args.ports.now))
    (front_first (front ++ tail) (codes "\n")
    (front_later front tail c.in_ok-put_numbered.ensures c.in_err-put_listed.ensures)))
