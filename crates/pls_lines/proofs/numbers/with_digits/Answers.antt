use Rattle.std.proofs.Common.{◌++◌, ◌+◌, [], ◌∷◌}
use Rattle.pls_lines.proofs.LeadingNumbers.{digits_more, one_digit}
use Rattle.pls_lines.proofs.numbers.with_digits.Goals as goal

pub loop-digit-init : goal.loop-digit-init
loop-digit-init c =
    ((48 + c.args.first) ∷ [], one_digit c.args.first c.args.text.now c.requires)

pub loop-digit-preserved : goal.loop-digit-preserved
loop-digit-preserved c =
    let digits = c.loop-digit.invariant.0 in (
      digits ++ (48 + c.in-Some.digit) ∷ [],
      digits_more digits ((48 + c.args.first) ∷ c.args.text.now) _ _ c.loop-digit.number
          c.in-Some.digit c.loop-digit.invariant.1 c.in-Some.ensures.stands c.in-Some.ensures.within,
    )
