use Rattle.std.proofs.Common.{ℕ, subst}
use Rattle.pls_rules_part.specs.inner.Adding.{refusal_from}
use Rattle.pls_rules_part.proofs.Additions.{progress_end, progress_refusal, progress_step}
use Rattle.pls_rules_part.proofs.Errors.{if_refusal}
use Rattle.pls_rules_part.specs.Refusal.{SaysTextRefusal}
use Rattle.pls_rules_part.specs.inner.Adding.{at_line, line_refusal}
use Rattle.pls_rule_text.specs.FieldNames.{names_of}
use Rattle.pls_rules_part.proofs.rule_lines.set_of_lines.Goals as goal

pub returns-in_err-add_to-clause-refused : goal.returns-in_err-add_to-clause-refused
returns-in_err-add_to-clause-refused c = λ said behind.
    let progress = c.loop-line.invariant.1 said behind in
    let names = names_of c.loop-line.set.fields.items in
    if_refusal c.from_residual.result (refusal_from c.args.lines.number said)
    c.in_err-add_to.field-0.0 c.from_residual.ensures.1
    (progress_refusal said (refusal_from c.args.lines.number said) c.loop-line.lines c.loop-line.set progress
    c.next_of.new.lines c.in-Some.line c.in_err-add_to.field-0.0 c.in-Some.ensures.fits
    c.in-Some.ensures.passed
    (λ line fits is. subst
    (λ (place : ℕ). SaysTextRefusal (at_line place (line_refusal names line)) c.in_err-add_to.field-0.0)
    c.loop-line.invariant.0 (c.in_err-add_to.ensures.refused line fits is)))

pub loop-line-preserved : goal.loop-line-preserved
loop-line-preserved c = (
  c.number-place-in-Some.ensures.value,
  λ said behind.
      progress_step said (refusal_from c.args.lines.number said) c.loop-line.lines c.loop-line.set
      (c.loop-line.invariant.1 said behind) c.next_of.new.lines c.in-Some.line c.add_to.new.set
      c.in-Some.ensures.fits c.in-Some.ensures.passed c.in_ok-add_to.ensures.added
      c.in_ok-add_to.ensures.sense,
)

pub returns-clause-same : goal.returns-clause-same
returns-clause-same c = λ said behind.
    (progress_end said (refusal_from c.args.lines.number said) c.loop-line.lines c.loop-line.set
    (c.loop-line.invariant.1 said behind) c.in_default.ensures.none).0

pub returns-clause-accepted : goal.returns-clause-accepted
returns-clause-accepted c = λ said behind.
    (progress_end said (refusal_from c.args.lines.number said) c.loop-line.lines c.loop-line.set
    (c.loop-line.invariant.1 said behind) c.in_default.ensures.none).1
