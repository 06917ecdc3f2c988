use Rattle.std.proofs.Common.{[], append-nil, map, refl}
use Rattle.pls_streams.proofs.Written.{failed}
use Rattle.pls_report.specs.ComponentLines.{component_line}
use Rattle.pls_report.proofs.Lines.{failed_line, wrote_line}
use Rattle.pls_report.proofs.component_lines.write_each.Goals as goal

pub loop-part-preserved : goal.loop-part-preserved
loop-part-preserved g c =
    wrote_line (component_line c.args.simulated) c.args.parts.now c.loop-part.part-index _ _ refl
    c.loop-part-test.true c.loop-part.invariant c.in_ok-write_component.ensures

pub returns-in_err-write_component : goal.returns-in_err-write_component
returns-in_err-write_component g c =
    failed _ _ c.from_residual.result _ c.from_residual.ensures.0
    (rw (append-nil (map (component_line c.args.simulated) c.args.parts.now)) at
    (failed_line (component_line c.args.simulated) c.args.parts.now c.loop-part.part-index _ _ refl
    c.loop-part-test.true [] c.loop-part.invariant c.in_err-write_component.ensures))
