use Rattle.std.proofs.Common.{◌++◌, ◌∷◌, [], List, ℕ, map, sym, subst}
use Rattle.pls_lines.specs.Text.{text_of}
use Rattle.pls_lines.specs.laws.Fronts.{text_of-append}
use Rattle.pls_report.specs.ComponentLines.{if_several, component_line}
use Rattle.pls_report.specs.Report.{closing_line}
use Rattle.pls_streams.specs.Gathered.{Writes, WroteFront}
use Rattle.pls_streams.proofs.Written.{both, failed, front_first}
use Rattle.pls_report.proofs.report.write_last.Goals as goal

pub returns : goal.returns
returns g c =
    let parts = c.args.parts.now in
    let closing = closing_line c.args.simulated c.args.rows.now in
    let lines : List (List ℕ) = if_several parts (map (component_line c.args.simulated) parts) in
    subst (Writes _ _ _ _ _ _ _ _ c.write_closing.result)
    (sym (text_of-append lines (closing ∷ [])))
    (both _ _ _ _ c.write_closing.result (text_of lines) (closing ++ 10 ∷ [])
    c.in_ok-write_components.ensures c.write_closing.ensures)

pub returns-in_err-write_components : goal.returns-in_err-write_components
returns-in_err-write_components g c =
    let parts = c.args.parts.now in
    let closing = closing_line c.args.simulated c.args.rows.now in
    let lines : List (List ℕ) = if_several parts (map (component_line c.args.simulated) parts) in
    failed _ _ c.from_residual.result _ c.from_residual.ensures.0
    (subst (WroteFront _ _ _ _ _ _) (sym (text_of-append lines (closing ∷ [])))
    (front_first (text_of lines) (closing ++ 10 ∷ []) c.in_err-write_components.ensures))
