use Rattle.pls_rules_part.proofs.Told.{has_rules, passes_rules}
use Rattle.pls_rules_part.proofs.rules_text.RulesTextPart.pass.Goals as goal

pub invariant_of-result : goal.invariant_of-result
invariant_of-result c =
    let part = c.in_ok-part.part in
    has_rules c.args.lines.now c.pass.new.lines part.heading part.lines part.kept
    c.in_ok-part.ensures.ok

pub returns-clause-ok : goal.returns-clause-ok
returns-clause-ok c =
    let part = c.in_ok-part.part in
    passes_rules c.args.lines.now c.pass.new.lines part.heading part.lines part.kept
    c.in_ok-part.ensures.ok
