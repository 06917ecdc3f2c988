use Rattle.std.proofs.Common.{◌+◌, sym, ◌∙◌, arith}
use Rattle.std.proofs.lemmas.List.{take_more_set}
use Rattle.std.proofs.lemmas.Fmt.{decimal_digit}
use Rattle.pls_streams.proofs.decimals.put_one.Goals as goal

pub returns-clause-digits : goal.returns-clause-digits
returns-clause-digits c =
    take_more_set c.args.into.now 0 (48 + c.args.value) (omega (arith, c.requires.room))
    ∙ sym (decimal_digit c.args.value c.requires.one)
