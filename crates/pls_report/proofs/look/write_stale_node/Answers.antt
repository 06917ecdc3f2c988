use Rattle.std.proofs.Common.{◌++◌, List, ℕ, codes, decimal, subst}
use Rattle.pls_sim.specs.declared.outcome.Outcome.TheVariants.{Decided}
use Rattle.pls_streams.specs.Gathered.{Writes, Wrote, WroteFront}
use Rattle.pls_streams.proofs.Written.{both, failed, front_first, front_later, wrote_both}
use Rattle.pls_report.specs.inner.Pieces.{outcome_tail, spaced}
use Rattle.pls_report.proofs.LookTexts.{stale_put}
use Rattle.pls_report.proofs.look.write_stale_node.Goals as goal

pub returns-in_err-put_front : goal.returns-in_err-put_front
returns-in_err-put_front g c =
    let node : List ℕ =
    (codes "node " ++ decimal c.args.id) ++ outcome_tail (Decided c.args.verdict) in
    let stale : List ℕ = codes " stale" ++ spaced c.args.ports.now in
    failed _ _ c.from_residual.result _ c.from_residual.ensures.0
    (subst (WroteFront _ _ _ _ _ _)
    (stale_put c.args.id c.args.verdict c.args.ports.now c.requires)
    (front_first (node ++ stale) (codes "\n")
    (front_first node stale
    (subst (WroteFront _ _ _ _ _ _) c.line_in-count.ensures.line c.in_err-put_front.ensures))))

pub returns-in_err-put_listed : goal.returns-in_err-put_listed
returns-in_err-put_listed g c =
    let node : List ℕ =
    (codes "node " ++ decimal c.args.id) ++ outcome_tail (Decided c.args.verdict) in
    let stale : List ℕ = codes " stale" ++ spaced c.args.ports.now in
    failed _ _ c.from_residual-in_err-put_listed.result _
    c.from_residual-in_err-put_listed.ensures.0
    (subst (WroteFront _ _ _ _ _ _)
    (stale_put c.args.id c.args.verdict c.args.ports.now c.requires)
    (front_first (node ++ stale) (codes "\n")
    (front_later node stale
    (subst (Wrote _ _ _ _ _ _ _ _) c.line_in-count.ensures.line c.in_ok-put_front.ensures)
    c.in_err-put_listed.ensures)))

pub returns : goal.returns
returns g c =
    let node : List ℕ =
    (codes "node " ++ decimal c.args.id) ++ outcome_tail (Decided c.args.verdict) in
    let stale : List ℕ = codes " stale" ++ spaced c.args.ports.now in
    subst (Writes _ _ _ _ _ _ _ _ c.put.result)
    (stale_put c.args.id c.args.verdict c.args.ports.now c.requires)
    (both _ _ _ _ c.put.result (node ++ stale) (codes "\n")
    (wrote_both node stale
    (subst (Wrote _ _ _ _ _ _ _ _) c.line_in-count.ensures.line c.in_ok-put_front.ensures)
    c.in_ok-put_listed.ensures) c.put.ensures)
