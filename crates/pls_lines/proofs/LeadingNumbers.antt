-- Numbers at the front of a text, whose digits end where no digit follows.
use Rattle.std.proofs.Common.{◌≡◌, ℕ, ◌+◌, ◌*◌, ◌%◌, ◌<◌, ◌≤◌, ◌^◌, List, [], ◌∷◌, ◌++◌, length, get_or, decimal, refl, sym, ◌∙◌, ap, subst, append_assoc, arith}
use Rattle.std.specs.List.{AllByRecursion}
use Rattle.std.specs.Str.Parse.{AllDigits}
use Rattle.std.proofs.Math.Nat.{pow-le-pow_right}
use Rattle.std.proofs.lemmas.Str.{digit_value_digit}
use Rattle.std.proofs.lemmas.Int.Digits.{digits_value-lt, digits_value_push}
use Rattle.std.proofs.lemmas.Fmt.{decimal_by_steps, decimal_nonempty, decimal_injective, length-decimal-le}
use Rattle.std.proofs.lemmas.List.{length_push}
use Rattle.pls_streams.proofs.Numerals.{IsNumeralOf, decimal_from_numeral, numeral_from_decimal}
use Rattle.pls_lines.specs.inner.Digits.{BeginsDigit, IsDigit, IsOfDigits}
use Rattle.pls_lines.specs.declared.numbers.TheConstants.{MOST_DIGITS}
use Rattle.pls_lines.specs.laws.Cuts.{each-append}

-- each byte of a number's spelling is a digit
pub decimal_digits : (number : ℕ) → number < 2 ^ 64 → AllByRecursion IsDigit (decimal number)
decimal_digits number small =
    decimal_by_steps (λ n ds. AllByRecursion IsDigit ds)
    (λ n below. ((omega arith, omega arith), tt))
    (λ n ds above front. each-append IsDigit ds ((48 + n % 10) ∷ []) front
    ((omega arith, omega arith), tt))
    number small

-- all digits at the front of a text are told by it, and so is what follows
pub same_digits : (a b x y : List ℕ) → AllByRecursion IsDigit a → AllByRecursion IsDigit b
    → (BeginsDigit x → ⊥) → (BeginsDigit y → ⊥) → a ++ x ≡ b ++ y → (a ≡ b) × (x ≡ y)
same_digits [] [] x y p q no_x no_y e = (refl, e)
same_digits [] (d ∷ b) x y p q no_x no_y e = absurd (no_x (subst BeginsDigit (sym e) q.0))
same_digits (c ∷ a) [] x y p q no_x no_y e = absurd (no_y (subst BeginsDigit e p.0))
same_digits (c ∷ a) (d ∷ b) x y p q no_x no_y e =
    let head : c ≡ d = cc in
    let tail : a ++ x ≡ b ++ y = cc in
    let rest = same_digits a b x y p.1 q.1 no_x no_y tail in
    let front = rest.0 in
    (cc, rest.1)

-- so the number at the front of a text is told by it
pub same_leading : (a b : ℕ) (x y : List ℕ) → a < 2 ^ 64 → b < 2 ^ 64 → (BeginsDigit x → ⊥)
    → (BeginsDigit y → ⊥) → decimal a ++ x ≡ decimal b ++ y → (a ≡ b) × (x ≡ y)
same_leading a b x y small_a small_b no_x no_y e =
    let same =
    same_digits (decimal a) (decimal b) x y (decimal_digits a small_a) (decimal_digits b small_b)
    no_x no_y e in
    (decimal_injective a b small_a small_b same.0, same.1)

-- digits, as the values of texts take them
all_digits : (digits : List ℕ) → AllByRecursion IsDigit digits → AllDigits 10 digits
all_digits [] all = tt
all_digits (digit ∷ digits) all =
    let value = digit_value_digit digit (all.0.0, omega (arith, all.0.1)) in
    (omega (arith, value, all.0.1), all_digits digits all.1)

-- a digit on its own
pub one_digit : (digit : ℕ) (rest : List ℕ) → digit < 10
    → IsOfDigits ((48 + digit) ∷ []) digit ((48 + digit) ∷ rest) rest
one_digit digit rest small = record {
  front = refl;
  all = ((omega arith, omega (arith, small)), tt);
  value = λ few.
      omega (arith, digit_value_digit (48 + digit) (omega arith, omega (arith, small)));
}

-- one more digit
pub digits_more : (digits text rest behind : List ℕ) (number digit : ℕ)
    → IsOfDigits digits number text rest → rest ≡ (48 + digit) ∷ behind → digit < 10
    → IsOfDigits (digits ++ (48 + digit) ∷ [])
    ((number * 10 % 18446744073709551616 + digit) % 18446744073709551616) text behind
digits_more digits text rest behind number digit is stands small = record {
  front = is.front ∙ ap (λ rest. digits ++ rest) stands
      ∙ sym (append_assoc digits ((48 + digit) ∷ []) behind);
  all = each-append IsDigit digits ((48 + digit) ∷ []) is.all
      ((omega arith, omega (arith, small)), tt);
  value = λ few.
      let few_before : length digits ≤ 18 = omega (arith, length_push digits (48 + digit), few) in
      let below = digits_value-lt 10 digits (all_digits digits is.all) in
      let most : 10 ^ length digits ≤ 10 ^ 18 = pow-le-pow_right (omega arith) few_before in
      let last = digit_value_digit (48 + digit) (omega arith, omega (arith, small)) in
      omega (
        arith,
        is.value (omega (arith, few_before)),
        below,
        most,
        digits_value_push 10 digits (48 + digit),
        last,
        small,
      );
}

-- where a digit is in front, there are some
pub some_digits : (digits text rest : List ℕ) (number digit : ℕ) → digit < 10
    → IsOfDigits digits number ((48 + digit) ∷ text) rest → (BeginsDigit rest → ⊥)
    → 0 < length digits
some_digits [] text rest number digit small is none_behind =
    absurd (none_behind (subst BeginsDigit is.front (omega arith, omega (arith, small))))
some_digits (c ∷ digits) text rest number digit small is none_behind = omega arith

module _ (digits text rest : List ℕ) (number : ℕ) (is : IsOfDigits digits number text rest) where
  -- the first digit is the first byte of the text
  pub first_digit : 0 < length digits → get_or text 0 0 ≡ get_or digits 0 0
  first_digit some = ap (λ bytes. get_or bytes 0 0) is.front ∙ by digits some
    where
      by : (digits : List ℕ) → 0 < length digits
          → get_or (digits ++ rest) 0 0 ≡ get_or digits 0 0
      by [] some = absurd (omega (arith, some))
      by (digit ∷ digits) some = refl

  -- few digits without a leading zero spell their number
  pub digits_spell : length digits ≤ MOST_DIGITS → 0 < length digits
      → (get_or digits 0 0 ≡ 48 → length digits ≡ 1) → number < 2 ^ 64
      → text ≡ decimal number ++ rest
  digits_spell few some zero_alone small =
      is.front ∙ ap (λ front. front ++ rest) (decimal_from_numeral digits number small (record {
        digits = all_digits digits is.all;
        value = sym (is.value few);
        some = some;
        zero_alone = zero_alone;
      }))

  -- where the text begins with a number below 2^63, the digits are its own
  module _ (other : ℕ) (after : List ℕ) (small : other ≤ 2 ^ 63) (none_behind : BeginsDigit rest → ⊥)
      (none_after : BeginsDigit after → ⊥) (spelled : text ≡ decimal other ++ after) where
    pub own_numeral : IsNumeralOf digits other
    own_numeral =
        numeral_from_decimal digits other (omega (arith, small))
        (same_digits digits (decimal other) rest after is.all
        (decimal_digits other (omega (arith, small))) none_behind none_after
        (sym is.front ∙ spelled)).0

    -- they are few
    pub own_few : length digits ≤ MOST_DIGITS
    own_few =
        omega (
          arith,
          ap length (decimal_from_numeral digits other (omega (arith, small)) own_numeral),
          length-decimal-le 19 other (omega arith) (omega (arith, small)) (omega (arith, small)),
        )

    -- and stand for it
    pub own_number : number ≡ other
    own_number = is.value own_few ∙ own_numeral.value

-- a text that begins with a number begins with a digit
pub decimal_begins : (number : ℕ) (rest : List ℕ) → number < 2 ^ 64
    → BeginsDigit (decimal number ++ rest)
decimal_begins number rest small =
    by (decimal number) (decimal_digits number small) (decimal_nonempty number small)
  where
    by : (a : List ℕ) → AllByRecursion IsDigit a → 0 < length a → BeginsDigit (a ++ rest)
    by [] p some = absurd (omega arith)
    by (c ∷ a) p some = p.0

-- where other bytes than digits follow two numbers, and one text begins with both, the numbers are
-- one, and so is what follows
pub other_behind : (a b : ℕ) (text x y : List ℕ) (end : ℕ) → a < 2 ^ 64 → b < 2 ^ 64
    → (BeginsDigit x → ⊥) → end < 48 → text ≡ decimal a ++ x → text ≡ decimal b ++ end ∷ y
    → x ≡ end ∷ y
other_behind a b text x y end small_a small_b none_behind low p q =
    (same_leading a b x (end ∷ y) small_a small_b none_behind (λ d. omega (arith, d.0)) (sym p ∙ q)).1
