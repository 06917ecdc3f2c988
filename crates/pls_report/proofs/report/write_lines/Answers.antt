use Rattle.std.proofs.Common.{◌++◌, ◌∷◌, [], List, ℕ, map, take, subst}
use Rattle.pls_lines.specs.Text.{text_of}
use Rattle.pls_report.specs.ComponentLines.{if_several, component_line}
use Rattle.pls_report.specs.Report.{closing_line, outcome_line}
use Rattle.pls_streams.specs.Gathered.{Writes}
use Rattle.pls_streams.proofs.Written.{both, failed}
use Rattle.pls_report.proofs.Lines.{failed_line, lines_closed, wrote_line}
use Rattle.pls_report.proofs.report.write_lines.Goals as goal

pub loop-id-preserved : goal.loop-id-preserved
loop-id-preserved g c =
    wrote_line outcome_line c.args.rows.now c.loop-id.id-index c.loop-id-item.result _
    c.loop-id-item.is c.loop-id-test.true c.loop-id.invariant c.in_ok-write_node.ensures

pub returns-in_err-write_node : goal.returns-in_err-write_node
returns-in_err-write_node g c =
    let parts = c.args.parts.now in
    let last : List (List ℕ) = if_several parts (map (component_line c.args.simulated) parts)
    ++ closing_line c.args.simulated c.args.rows.now ∷ [] in
    failed _ _ c.from_residual.result _ c.from_residual.ensures.0
    (failed_line outcome_line c.args.rows.now c.loop-id.id-index c.loop-id-item.result _
    c.loop-id-item.is c.loop-id-test.true last c.loop-id.invariant c.in_err-write_node.ensures)

pub returns : goal.returns
returns g c =
    let rows = c.args.rows.now in
    let i : ℕ = c.loop-id.id-index in
    let parts = c.args.parts.now in
    let last : List (List ℕ) = if_several parts (map (component_line c.args.simulated) parts)
    ++ closing_line c.args.simulated rows ∷ [] in
    subst (Writes _ _ _ _ _ _ _ _ c.write_last.result)
    (lines_closed outcome_line rows i last c.loop-id-test.false)
    (both _ _ _ _ c.write_last.result (text_of (map outcome_line (take i rows))) (text_of last)
    c.loop-id.invariant c.write_last.ensures)
