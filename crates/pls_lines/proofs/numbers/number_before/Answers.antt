use Rattle.std.proofs.Common.{arith}
use Rattle.pls_lines.proofs.LeadingNumbers.{other_behind}
use Rattle.pls_lines.proofs.numbers.number_before.Goals as goal

pub returns-in_err-rest-clause-none : goal.returns-in_err-rest-clause-none
returns-in_err-rest-clause-none c =
    rw c.from_residual-in_err-rest.ensures
    (λ number rest within e.
    c.in_err-rest.ensures.none rest
    (other_behind c.in_ok-number.number number c.args.text.now _ rest c.args.end
    (omega (arith, c.requires.few, c.in_ok-number.ensures.within))
    (omega (arith, c.requires.few, within)) c.in_ok-number.ensures.all c.requires.no_digit
    c.in_ok-number.ensures.stands e))
