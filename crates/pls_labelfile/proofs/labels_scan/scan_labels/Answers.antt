use Rattle.pls_labelfile.proofs.Headings.{delta_fault, fault_unless, passed_unless}
use Rattle.pls_labelfile.proofs.labels_scan.scan_labels.Goals as goal
use Rattle.pls_labelfile.proofs.labels_scan.scan_labels.Goals.{else-not-delta-via-then-not-delta+else-pass, else-not-delta-via-else-not-delta}

pub returns-then-pass-clause-form : goal.returns-then-pass-clause-form
returns-then-pass-clause-form c = (
  c.args.lines.now.number,
  c.form_error.ensures,
  delta_fault c.args.delta c.args.lines.now c.pass.new.self c.if-not-delta.true
      (rw c.again.ensures at c.if-pass.ensures.passed),
)

pub returns-clause-ok : goal.returns-clause-ok
returns-clause-ok c = elim c.else-not-delta.branch [
  | else-not-delta-via-then-not-delta+else-pass w ↦
      passed_unless c.args.delta c.args.lines.now c.scan.new.lines c.scan.result
      (rw w.again.ensures at w.if-pass.ensures.other) c.scan.ensures.ok
  | else-not-delta-via-else-not-delta w ↦
      rw (w.if-not-delta.false) c.scan.ensures.ok
]

pub returns-clause-form : goal.returns-clause-form
returns-clause-form c = elim c.else-not-delta.branch [
  | else-not-delta-via-then-not-delta+else-pass w ↦
      fault_unless c.args.delta c.args.lines.now c.scan.result
      (rw w.again.ensures at w.if-pass.ensures.other) c.scan.ensures.form
  | else-not-delta-via-else-not-delta w ↦
      rw (w.if-not-delta.false) c.scan.ensures.form
]
