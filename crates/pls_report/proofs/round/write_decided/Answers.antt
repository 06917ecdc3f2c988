use Rattle.std.proofs.Common.{◌++◌, ◌∷◌, [], List, ℕ, map, refl, take, subst}
use Rattle.pls_lines.specs.Text.{text_of}
use Rattle.pls_report.specs.Report.{decided_line, round_line}
use Rattle.pls_streams.specs.Gathered.{Writes}
use Rattle.pls_streams.proofs.Written.{both, failed}
use Rattle.pls_report.proofs.Lines.{failed_line, lines_closed, wrote_line}
use Rattle.pls_report.proofs.Texts.{round_text}
use Rattle.pls_report.proofs.round.write_decided.Goals as goal

pub loop-id-preserved : goal.loop-id-preserved
loop-id-preserved g c =
    wrote_line decided_line c.args.rows.now c.loop-id.id-index _ _ refl c.loop-id-test.true
    c.loop-id.invariant c.in_ok-put_decided.ensures

pub returns-in_err-put_decided : goal.returns-in_err-put_decided
returns-in_err-put_decided g c =
    let closing : List ℕ =
    round_line c.args.number c.args.checked c.args.connected c.args.rows.now in
    failed _ _ c.from_residual.result _ c.from_residual.ensures.0
    (failed_line decided_line c.args.rows.now c.loop-id.id-index _ _ refl c.loop-id-test.true
    (closing ∷ []) c.loop-id.invariant c.in_err-put_decided.ensures)

pub returns : goal.returns
returns g c =
    let rows = c.args.rows.now in
    let i : ℕ = c.loop-id.id-index in
    let closing : List ℕ = round_line c.args.number c.args.checked c.args.connected rows in
    let line = rw c.rejecting_verdicts-rejecting.ensures at c.write_numbers.ensures in
    subst (Writes _ _ _ _ _ _ _ _ c.write_numbers.result)
    (lines_closed decided_line rows i (closing ∷ []) c.loop-id-test.false)
    (both _ _ _ _ c.write_numbers.result (text_of (map decided_line (take i rows)))
    (closing ++ 10 ∷ []) c.loop-id.invariant
    (subst (Writes _ _ _ _ _ _ _ _ c.write_numbers.result)
    (round_text c.args.number c.args.checked c.args.connected rows) line))
