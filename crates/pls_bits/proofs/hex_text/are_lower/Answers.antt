use Rattle.std.proofs.Common.{arith}
use Rattle.std.proofs.lemmas.List.{take_all}
use Rattle.std.proofs.lemmas.List.Folds.{list_all_more}
use Rattle.pls_bits.specs.Hex.{is_lower_digit}
use Rattle.pls_bits.proofs.hex_text.are_lower.Goals as goal

pub loop-digit-preserved : goal.loop-digit-preserved
loop-digit-preserved c =
    let digits = c.args.digits.now in
    let more = list_all_more is_lower_digit digits c.loop-digit.digit-index 0 (omega arith) in
    cc (more, c.loop-digit.invariant, c.is_lower-lower.ensures)

pub returns : goal.returns
returns c =
    let digits = c.args.digits.now in
    let whole = take_all c.loop-digit.digit-index digits (omega arith) in
    rw whole at c.loop-digit.invariant
