use Rattle.std.proofs.Common.{◌<◌, ◌≤◌, ◌^◌, ◌+◌, ◌∷◌, length, length-append, ap, ◌∙◌, subst, sym, arith}
use Rattle.pls_lines.specs.inner.Digits.{BeginsDigit}
use Rattle.pls_lines.proofs.LeadingNumbers.{decimal_begins, digits_spell, first_digit, own_few, own_number, own_numeral, some_digits}
use Rattle.pls_lines.proofs.numbers.leading_number.Goals as goal
use Rattle.pls_lines.proofs.numbers.leading_number.Goals.{then-count-gt-MOST_DIGITS-via-then-count-gt-MOST_DIGITS, then-count-gt-MOST_DIGITS-via-else-count-gt-MOST_DIGITS+then-number-most, else-first-eq0-via-then-first-eq0+else-count-gt1, else-first-eq0-via-else-first-eq0}

pub returns-in_err-first-clause-none : goal.returns-in_err-first-clause-none
returns-in_err-first-clause-none c =
    rw c.from_residual.ensures
    (λ number rest within none_behind e.
    c.in_err-first.ensures.none
    (subst BeginsDigit (sym e) (decimal_begins number rest (omega (arith, c.requires.few, within)))))

pub returns-then-count-gt-MOST_DIGITS-clause-none : goal.returns-then-count-gt-MOST_DIGITS-clause-none
returns-then-count-gt-MOST_DIGITS-clause-none c number rest within none_behind e =
    let found = c.with_digits-number.result in
    let digits = c.with_digits-number.ensures.0.0 in
    let is = c.with_digits-number.ensures.0.1 in
    let none = c.with_digits-number.ensures.1 in
    let text = (48 + c.in_ok-first.first) ∷ c.in_ok-first.behind.now in
    let small : number ≤ 2 ^ 63 = omega (arith, within, c.requires.few) in
    let spelled = sym c.in_ok-first.ensures.stands ∙ e in
    let few = own_few digits text found.1.now found.0 is number rest small none none_behind spelled in
    let same =
    own_number digits text found.1.now found.0 is number rest small none none_behind spelled in
    elim c.then-count-gt-MOST_DIGITS.branch [
      | then-count-gt-MOST_DIGITS-via-then-count-gt-MOST_DIGITS w ↦
          omega (
            arith,
            w.if-count-gt-MOST_DIGITS.true,
            ap length (c.in_ok-first.ensures.stands ∙ is.front)
                ∙ length-append digits found.1.now,
            few,
          )
      | then-count-gt-MOST_DIGITS-via-else-count-gt-MOST_DIGITS+then-number-most w ↦
          omega (arith, w.if-number-most.true, same, within)
    ]

pub returns-then-count-gt1-clause-none : goal.returns-then-count-gt1-clause-none
returns-then-count-gt1-clause-none c number rest within none_behind e =
    let found = c.with_digits-number.result in
    let digits = c.with_digits-number.ensures.0.0 in
    let is = c.with_digits-number.ensures.0.1 in
    let text = (48 + c.in_ok-first.first) ∷ c.in_ok-first.behind.now in
    let numeral =
    own_numeral digits text found.1.now found.0 is number rest
    (omega (arith, within, c.requires.few)) c.with_digits-number.ensures.1 none_behind
    (sym c.in_ok-first.ensures.stands ∙ e) in
    let zero = sym (first_digit digits text found.1.now found.0 is numeral.some)
    ∙ ap (λ first. 48 + first) c.if-first-eq0.true in
    omega (
      arith,
      c.if-count-gt1.true,
      ap length (c.in_ok-first.ensures.stands ∙ is.front) ∙ length-append digits found.1.now,
      numeral.zero_alone zero,
    )

pub returns-clause-stands : goal.returns-clause-stands
returns-clause-stands c =
    let found = c.with_digits-number.result in
    let digits = c.with_digits-number.ensures.0.0 in
    let is = c.with_digits-number.ensures.0.1 in
    let first = c.in_ok-first.first in
    let text = (48 + first) ∷ c.in_ok-first.behind.now in
    let long = ap length (c.in_ok-first.ensures.stands ∙ is.front)
    ∙ length-append digits found.1.now in
    let few : length digits ≤ 19 = omega (arith, c.if-count-gt-MOST_DIGITS.false, long) in
    let some : 0 < length digits =
    some_digits digits c.in_ok-first.behind.now found.1.now found.0 first
    c.in_ok-first.ensures.within is c.with_digits-number.ensures.1 in
    c.in_ok-first.ensures.stands ∙ digits_spell digits text found.1.now found.0 is few some
    (λ zero. elim c.else-first-eq0.branch [
      | else-first-eq0-via-then-first-eq0+else-count-gt1 w ↦
          omega (arith, some, long, w.if-count-gt1.false)
      | else-first-eq0-via-else-first-eq0 w ↦
          absurd (w.if-first-eq0.false
          (omega (arith, first_digit digits text found.1.now found.0 is some, zero)))
    ])
    (omega (arith, c.if-number-most.false, c.requires.few))
