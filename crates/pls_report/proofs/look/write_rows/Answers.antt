use Rattle.std.proofs.Common.{◌≡◌, ◌<◌, ◌≤◌, ◌∙◌, ◌∷◌, [], List, ℕ, ap, get_or, length, map, take, subst}
use Rattle.pls_lines.specs.Text.{text_of}
use Rattle.pls_report.specs.Look.{look_closing, look_line}
use Rattle.pls_report.specs.inner.Kept.{counts_text}
use Rattle.pls_streams.specs.Gathered.{Writes}
use Rattle.pls_streams.proofs.Written.{both, failed}
use Rattle.pls_report.proofs.Lines.{failed_line, lines_closed, wrote_line}
use Rattle.pls_report.proofs.look.write_rows.Goals as goal

pub loop-row-preserved : goal.loop-row-preserved
loop-row-preserved g c =
    let rows = c.args.look.now.rows in
    let listed : c.rows-row-items.result.now ≡ rows = c.rows-row-items.ensures in
    wrote_line look_line rows c.loop-row.row-index c.row-item.result _
    (c.row-item.is ∙ (λ k. get_or (listed k) c.loop-row.row-index c.row-item.result))
    (subst (λ rows. c.loop-row.row-index < length rows) listed c.loop-row-test.true)
    c.loop-row.invariant c.in_ok-write_row.ensures

pub returns-in_err-write_row : goal.returns-in_err-write_row
returns-in_err-write_row g c =
    let rows = c.args.look.now.rows in
    let listed : c.rows-row-items.result.now ≡ rows = c.rows-row-items.ensures in
    failed _ _ c.from_residual.result _ c.from_residual.ensures.0
    (failed_line look_line rows c.loop-row.row-index c.row-item.result _
    (c.row-item.is ∙ (λ k. get_or (listed k) c.loop-row.row-index c.row-item.result))
    (subst (λ rows. c.loop-row.row-index < length rows) listed c.loop-row-test.true)
    (look_closing c.args.number rows ∷ []) c.loop-row.invariant c.in_err-write_row.ensures)

pub returns : goal.returns
returns g c =
    let rows = c.args.look.now.rows in
    let i : ℕ = c.loop-row.row-index in
    let last : List (List ℕ) = look_closing c.args.number rows ∷ [] in
    let listed : c.rows-row-items.result.now ≡ rows = c.rows-row-items.ensures in
    subst (Writes _ _ _ _ _ _ _ _ c.write_counts.result)
    (lines_closed look_line rows i last
    (subst (λ rows. length rows ≤ i) listed c.loop-row-test.false))
    (both _ _ _ _ c.write_counts.result (text_of (map look_line (take i rows))) (text_of last)
    c.loop-row.invariant
    (subst (Writes _ _ _ _ _ _ _ _ c.write_counts.result)
    (ap (counts_text c.args.number) c.counts.ensures) c.write_counts.ensures))
