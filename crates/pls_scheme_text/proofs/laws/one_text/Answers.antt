use Rattle.pls_expressions.specs.Held.{expression_of}
use Rattle.pls_scheme_text.specs.laws.TextLaws.{one_expression}
use Rattle.pls_scheme_text.proofs.laws.one_text.Goals as goal

pub returns : goal.returns
returns c same =
    one_expression (expression_of c.args.one.now) (expression_of c.args.other.now)
    c.requires.one.writable c.requires.other.writable same
