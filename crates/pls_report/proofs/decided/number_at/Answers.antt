use Rattle.std.proofs.Common.{◌≡◌, ◌+◌, ◌-◌, ◌++◌, ◌∙◌, List, ℕ, ap, arith, length, refl, sym, take}
use Rattle.std.proofs.lemmas.Fmt.{decimal_digit}
use Rattle.std.proofs.lemmas.List.{length-drop, take_more_set, take_rest}
use Rattle.std.proofs.lemmas.Slice.{take-put_mid}
use Rattle.pls_report.proofs.Texts.{front_behind}
use Rattle.pls_report.proofs.decided.number_at.Goals as goal

pub returns-then-number-lt10-clause-number : goal.returns-then-number-lt10-clause-number
returns-then-number-lt10-clause-number c =
    let into = c.args.into.now in
    let at = c.args.at in
    take_more_set into at (48 + c.args.number) (omega (arith, c.requires))
    ∙ ap (λ (digit : List ℕ). take at into ++ digit)
    (sym (decimal_digit c.args.number c.if-number-lt10.true))

pub returns-clause-number : goal.returns-clause-number
returns-clause-number c =
    let into = c.args.into.now in
    let at = c.args.at in
    let rest = c.put_decimal.new.into in
    let long : length rest ≡ length into - at =
    c.put_decimal.ensures.length ∙ ap (length {A = ℕ}) (take_rest into at) ∙ length-drop at into in
    front_behind into _ rest at c.put_decimal.result (omega (arith, c.requires))
    (omega (arith, c.requires, c.put_decimal.ensures.within, long))
    (take-put_mid at (length into - at) into rest (at + length rest) refl
    (omega (arith, c.requires)))
    ∙ ap (λ (digits : List ℕ). take at into ++ digits) c.put_decimal.ensures.digits
