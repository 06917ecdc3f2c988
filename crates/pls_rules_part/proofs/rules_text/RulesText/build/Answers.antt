use Rattle.pls_rules_part.proofs.Accepted.{read_back, read_sense}
use Rattle.pls_rules_part.proofs.rules_text.RulesText.build.Goals as goal

pub set_of_lines-requires : goal.set_of_lines-requires
set_of_lines-requires c = c.behind_heading.ensures.some

pub returns-clause-back : goal.returns-clause-back
returns-clause-back c = λ said tells.
    let stands = c.behind_heading.ensures.stands said tells in
    read_back c.set_of_lines.result said c.behind_heading.result.number tells.are
    (c.set_of_lines.ensures.same said stands) (c.set_of_lines.ensures.accepted said stands)

pub returns-clause-sense : goal.returns-clause-sense
returns-clause-sense c =
    let said = c.behind_heading.ensures.some.0 in
    let stands = c.behind_heading.ensures.some.1 in
    read_sense c.set_of_lines.result said c.behind_heading.result.number stands.are
    (c.set_of_lines.ensures.same said stands) (c.set_of_lines.ensures.accepted said stands)
