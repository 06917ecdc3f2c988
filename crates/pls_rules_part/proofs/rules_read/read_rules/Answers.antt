use Rattle.std.proofs.Common.{◌∙◌}
use Rattle.pls_rules_part.proofs.Printables.{printed_whole, tells_printed}
use Rattle.pls_rules_part.proofs.WholeRules.{memory_alone, set_again, whole_text}
use Rattle.pls_rules_part.specs.RulesText.{said_of_set}
use Rattle.pls_rules_part.proofs.rules_read.read_rules.Goals as goal

pub returns-in_err-part-clause-only : goal.returns-in_err-part-clause-only
returns-in_err-part-clause-only c = λ set printable is.
    absurd (printed_whole set printable c.args.text.now is c.in_err-part.field-0.0
    c.in_err-part.ensures.form)

pub returns-clause-again : goal.returns-clause-again
returns-clause-again c = λ set printable is.
    let tells = tells_printed set printable c.in_ok-part.part.text
    (whole_text c.args.text.now c.in_ok-part.part c.in_ok-part.ensures.ok ∙ is) in
    set_again set printable c.build.result (c.build.ensures.same (said_of_set set) tells)

pub returns-clause-only : goal.returns-clause-only
returns-clause-only c = λ set printable is.
    let tells = tells_printed set printable c.in_ok-part.part.text
    (whole_text c.args.text.now c.in_ok-part.part c.in_ok-part.ensures.ok ∙ is) in
    memory_alone set printable c.build.result c.in_ok-part.part.number
    (c.build.ensures.refused (said_of_set set) tells)
