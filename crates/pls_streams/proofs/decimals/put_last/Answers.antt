use Rattle.std.proofs.Common.{ℕ, ◌%◌, ◌+◌, List, [], ◌∷◌, ◌++◌, sym, ap, ◌∙◌, arith}
use Rattle.std.proofs.lemmas.List.{take_more_set}
use Rattle.std.proofs.lemmas.Fmt.{decimal_step}
use Rattle.pls_streams.proofs.Numerals.{one_more_digit}
use Rattle.pls_streams.proofs.decimals.put_last.Goals as goal

pub returns-clause-digits : goal.returns-clause-digits
returns-clause-digits c =
    let value = c.args.value in
    let last = 48 + value % 10 in
    let small = c.ranges.value.fits in
    let room = one_more_digit value c.requires.several (omega (arith, small)) in
    take_more_set c.args.into.now c.args.front last (omega (arith, room, c.requires))
    ∙ ap (λ (front : List ℕ). front ++ last ∷ []) c.requires.others
    ∙ sym (decimal_step value c.requires.several (omega (arith, small)))
