use Rattle.std.proofs.Common.{sym, arith}
use Rattle.pls_fronts.specs.laws.NumberFrontLaws.{digits_ahead-le, spelled_decimal}
use Rattle.pls_fronts.proofs.digits.number_front.Goals as goal

pub split_at-requires : goal.split_at-requires
split_at-requires c = rw c.digits_ahead.ensures (digits_ahead-le c.args.text.now)

pub returns : goal.returns
returns c =
    let digits = c.split_at.result.0.now in
    let rest = c.split_at.result.1.now in
    let number = c.in_ok-number.number in
    sym (rw (← c.digits_ahead.ensures, ← c.split_at.ensures.front, ← c.split_at.ensures.back)
    (spelled_decimal c.args.most digits rest number c.in_ok-number.ensures.spelled
    c.in_ok-number.ensures.within (omega arith)))
