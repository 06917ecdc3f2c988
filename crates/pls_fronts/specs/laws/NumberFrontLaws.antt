-- A number at the front of a text is read where its decimal stands, and nowhere else.
use Rattle.std.proofs.Common.{◌≡◌, ◌∙◌, ℕ, ◌<◌, ◌≤◌, ◌^◌, ◌++◌, ◌&&◌, nat_le, Bool, true, false, List, [], ◌∷◌, length, take, drop, decimal, Some, None, if◌then◌else◌, refl, sym, ap, arith}
use Rattle.std.specs.Char.{is_ascii_digit}
use Rattle.std.specs.Fmt.{digits}
use Rattle.std.specs.Str.{all_ascii_digits, bytes_eq}
use Rattle.std.specs.Str.Parse.{digits_value}
use Rattle.std.proofs.Math.Seq.{drop-append_seam, take-append_seam}
use Rattle.std.proofs.lemmas.Bool.{and_parts, le-leb, leb-true}
use Rattle.std.proofs.lemmas.Fmt.{decimal_is_IsNumeral, digits_decimal}
use Rattle.std.proofs.lemmas.List.{take-append-drop}
use Rattle.std.proofs.lemmas.Option.{same_Some}
use Rattle.std.proofs.lemmas.Slice.Eq.{bytes_eq-Decides}
use Rattle.std.proofs.lemmas.Str.Parse.{numerals_by_value, tells_all_ascii_digits}
use Rattle.pls_fronts.specs.Front.{Front, followed}
use Rattle.pls_fronts.specs.NumberFront.{digits_ahead, number_front, spelled}

-- digits, in front of what begins with none, are all that stand in front
digits_ahead-append : (digits rest : List ℕ) → all_ascii_digits digits ≡ true
    → digits_ahead rest ≡ 0 → digits_ahead (digits ++ rest) ≡ length digits
digits_ahead-append [] rest all none = none
digits_ahead-append (digit ∷ digits) rest all none =
    let both = and_parts (is_ascii_digit digit) (all_ascii_digits digits) all in
    let later = digits_ahead-append digits rest both.1 none in
    rw both.0 (omega (arith, later))

-- no more digits stand in front than there are characters
pub digits_ahead-le : (text : List ℕ) → digits_ahead text ≤ length text
digits_ahead-le [] = omega arith
digits_ahead-le (character ∷ text) =
    by (is_ascii_digit character) refl (digits_ahead-le text)
  where
    by : (b : Bool) → is_ascii_digit character ≡ b → digits_ahead text ≤ length text
        → digits_ahead (character ∷ text) ≤ length (character ∷ text)
    by true is later = rw is (omega (arith, later))
    by false is later = rw is (omega arith)

-- a decimal is digits
pub decimal_digits : (number : ℕ) → number < 2 ^ 64 → all_ascii_digits (decimal number) ≡ true
decimal_digits number small =
    digits_decimal (numerals_by_value (λ ds. all_ascii_digits ds ≡ true) tells_all_ascii_digits)
    number small

-- the decimal of a number spells it
pub spelled_decimal : (most : ℕ) (digits rest : List ℕ) (number : ℕ) → digits ≡ decimal number
    → number ≤ most → number < 2 ^ 64 → spelled most digits rest ≡ Some (followed number rest)
spelled_decimal most digits rest number is within small =
    let value = (decimal_is_IsNumeral number small).1 in
    let same = (bytes_eq-Decides (decimal number) (decimal number)).1 refl in
    rw (is, value, same, le-leb number most within) refl

-- what spells a number is its decimal
pub spelled_is : (most : ℕ) (digits rest : List ℕ) (found : Front ℕ)
    → spelled most digits rest ≡ Some found
    → (digits ≡ decimal found.item) × (rest ≡ found.rest) × (found.item ≤ most)
spelled_is most digits rest found is =
    by (nat_le value most && bytes_eq digits (decimal value)) refl is
  where
    value : ℕ
    value = digits_value 10 digits

    by : (b : Bool) → (nat_le value most && bytes_eq digits (decimal value)) ≡ b
        → (if b then Some (followed value rest) else None) ≡ Some found
        → (digits ≡ decimal found.item) × (rest ≡ found.rest) × (found.item ≤ most)
    by false off same = absurd (cc)
    by true passes same =
        let parts = and_parts (nat_le value most) (bytes_eq digits (decimal value)) passes in
        let spelling : digits ≡ decimal value = (bytes_eq-Decides digits (decimal value)).0 parts.1 in
        let one : followed value rest ≡ found = same_Some (followed value rest) found same in
        let item : value ≡ found.item = ap (λ (f : Front ℕ). f.item) one in (
          spelling ∙ ap decimal item,
          ap (λ (f : Front ℕ). f.rest) one,
          rw (← item) (leb-true value most parts.0),
        )

-- the decimal of a number in front is read, where no digit follows it
pub number_read : (most number : ℕ) → number ≤ most → number < 2 ^ 64 → (rest : List ℕ)
    → digits_ahead rest ≡ 0
    → number_front most (decimal number ++ rest) ≡ Some (followed number rest)
number_read most number within small rest none =
    let ahead : digits_ahead (decimal number ++ rest) ≡ length (decimal number) =
    digits_ahead-append (decimal number) rest (decimal_digits number small) none in
    rw (ahead, take-append_seam (decimal number) rest, drop-append_seam (decimal number) rest)
    (spelled_decimal most (decimal number) rest number refl within small)

-- a number that is found is that of the decimal in front
pub number_is : (most : ℕ) (text : List ℕ) (found : Front ℕ) → number_front most text ≡ Some found
    → (text ≡ decimal found.item ++ found.rest) × (found.item ≤ most)
number_is most text found is =
    let parts = spelled_is most (take (digits_ahead text) text) (drop (digits_ahead text) text) found is in (
      sym (take-append-drop (digits_ahead text) text)
          ∙ ap (λ (t : List ℕ). t ++ drop (digits_ahead text) text) parts.0
          ∙ ap (λ (t : List ℕ). decimal found.item ++ t) parts.1,
      parts.2,
    )

-- where no digit stands in front, no number does
no_digits : (text : List ℕ) → take 0 text ≡ []
no_digits [] = refl
no_digits (character ∷ text) = refl

nothing_spelled : (most : ℕ) (rest : List ℕ) → spelled most [] rest ≡ None
unfolding digits
nothing_spelled most rest = rw (le-leb 0 most (omega arith)) refl

pub no_number : (most : ℕ) (text : List ℕ) → digits_ahead text ≡ 0 → number_front most text ≡ None
no_number most text none =
    ap (λ (n : ℕ). spelled most (take n text) (drop n text)) none
    ∙ ap (λ (front : List ℕ). spelled most front (drop 0 text)) (no_digits text)
    ∙ nothing_spelled most (drop 0 text)
