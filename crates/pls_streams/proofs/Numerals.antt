-- Texts of digits, their values, and the decimal spelling of a number.
use Rattle.std.proofs.Common.{◌≡◌, ℕ, zero, suc, ◌+◌, ◌*◌, ◌^◌, ◌<◌, ◌≤◌, ◌/◌, ◌%◌, List, [], ◌∷◌, length, take, get_or, decimal, sym, ap, ◌∙◌, subst, arith}
use Rattle.std.specs.Char.{digit_value}
use Rattle.std.specs.Str.Parse.{AllDigits, digits_value}
use Rattle.std.proofs.lemmas.Str.Parse.{IsNumeralModel, numerals_by_value, tells_digits, digits_value-take-le}
use Rattle.std.proofs.lemmas.Int.Digits.{digits_value_more}
use Rattle.std.proofs.lemmas.List.{length_push}
use Rattle.std.proofs.lemmas.Fmt.{decimal-digits_value, decimal_digit, decimal_nonempty, decimal_step, digits_decimal, digits_value-decimal, first_decimal}

-- std's words for texts of digits, as its lemmas take them
own : IsNumeralModel (AllDigits 10) (digits_value 10)
own = numerals_by_value (AllDigits 10) tells_digits

-- the text is digits, of which the first is no zero unless it is the only one, and they stand for
-- the number
pub record IsNumeralOf (text : List ℕ) (number : ℕ) : Type 0 where
  pub digits : AllDigits 10 text
  pub value : digits_value 10 text ≡ number
  pub some : 0 < length text
  pub zero_alone : get_or text 0 0 ≡ 48 → length text ≡ 1

-- a numeral is the decimal spelling of its number
pub decimal_from_numeral : (text : List ℕ) (number : ℕ) → number < 2 ^ 64 → IsNumeralOf text number
    → text ≡ decimal number
decimal_from_numeral text number small numeral =
    sym (ap decimal (sym numeral.value)
    ∙ decimal-digits_value own text numeral.digits numeral.some numeral.zero_alone
    (omega (arith, numeral.value)))

-- no zero leads the spelling of another number than zero
leads : (number : ℕ) → number < 2 ^ 64 → get_or (decimal number) 0 0 ≡ 48
    → length (decimal number) ≡ 1
leads zero small first = ap length (decimal_digit 0 (omega arith))
leads (suc n) small first = absurd (omega (arith, first, first_decimal (suc n) (omega arith) small))

-- the decimal spelling of a number is its numeral
pub numeral_from_decimal : (text : List ℕ) (number : ℕ) → number < 2 ^ 64 → text ≡ decimal number
    → IsNumeralOf text number
numeral_from_decimal text number small e =
    subst (λ (t : List ℕ). IsNumeralOf t number) (sym e) (record {
      digits = digits_decimal own number small;
      value = digits_value-decimal own number small;
      some = decimal_nonempty number small;
      zero_alone = leads number small;
    })

-- each byte of a text of digits is one
pub digit_below : (text : List ℕ) (i : ℕ) → AllDigits 10 text → i < length text
    → digit_value (get_or text i 0) < 10
digit_below [] i digits within = absurd (omega arith)
digit_below (c ∷ cs) zero digits within = digits.0
digit_below (c ∷ cs) (suc i) digits within = digit_below cs i digits.1 (omega arith)

-- where the front of a text of digits stands for a number that is too large, so does the text
pub front_below : (text : List ℕ) (i number : ℕ) → i < length text
    → number ≡ digits_value 10 (take i text)
    → 2 ^ 64 ≤ number * 10 + digit_value (get_or text i 0) → 2 ^ 64 ≤ digits_value 10 text
front_below text i number within value large =
    let front : digits_value 10 (take (i + 1) text) ≡ number * 10 + digit_value (get_or text i 0) =
    digits_value_more 10 text i within
    ∙ ap (λ n. n * 10 + digit_value (get_or text i 0)) (sym value) in
    omega (arith, front, digits_value-take-le 10 text (i + 1) (omega arith))

-- a number below ten has one digit
pub one_digit : (n : ℕ) → n < 10 → length (decimal n) ≡ 1
one_digit n small = ap length (decimal_digit n small)

-- every other has one more than its front without the last digit
pub one_more_digit : (n : ℕ) → 10 ≤ n → n < 2 ^ 64
    → length (decimal n) ≡ length (decimal (n / 10)) + 1
one_more_digit n large small =
    ap length (decimal_step n large small) ∙ length_push (decimal (n / 10)) (48 + n % 10)
