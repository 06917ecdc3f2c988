-- The characters of the texts of rules.
use Rattle.std.proofs.Common.{◌≡◌, ◌∙◌, inl, inr, ℕ, ◌≤◌, ◌==◌, ◌++◌, nat_le, Bool, true, List, [], ◌∷◌, codes, decimal, refl, arith}
use Rattle.std.specs.Char.{is_ascii_digit}
use Rattle.std.specs.List.{list_all}
use Rattle.std.proofs.lemmas.Bool.{and_from, and_parts, eqb-true, le-leb, leb-true}
use Rattle.std.proofs.lemmas.List.Folds.{list_all-append}
use Rattle.pls_fronts.specs.LetterFront.{is_letter}
use Rattle.pls_fronts.specs.laws.NumberFrontLaws.{decimal_digits}
use Rattle.pls_rules.specs.Formula.{Formula, Term, Eq, Lt, Le, Same, Both, Either, Not, All, Any, Number, Id, Mark, Num, Degree, Pointed, My, Up, UpWeight, Nb, NbWeight, NbUp, Add, Sum}
use Rattle.pls_rule_text.specs.FormulaText.{FormulaIsWritten, TermIsWritten, one_text, two_text}
use Rattle.pls_rule_text.specs.RuleText.{IsCharacter}
use Rattle.pls_rule_text.specs.inner.Said.{is_character}
use Rattle.pls_rule_text.specs.laws.AtomLaws.{words}
use Rattle.pls_rule_text.specs.laws.NameLaws.{all_letters, letter_is, letter_passes}
use Rattle.pls_rule_text.specs.laws.FormulaLaws.{sentence}
use Rattle.pls_rule_text.specs.laws.Tests.{first_passes, one_of_both, second_passes}

-- the test is what they are
pub character_is : (character : ℕ) → is_character character ≡ true → IsCharacter character
character_is character is =
    elim (one_of_both (is_letter character) _ is) [
      | inl letter ↦ inl (letter_is character letter)
      | inr other ↦ inr (elim (one_of_both (is_ascii_digit character) _ other) [
        | inl digit ↦ inl (digit_is digit)
        | inr mark ↦ inr (elim (one_of_both (character == 46) _ mark) [
          | inl point ↦ inl (eqb-true character 46 point)
          | inr last ↦ inr (elim (one_of_both (character == 44) _ last) [
            | inl comma ↦ inl (eqb-true character 44 comma)
            | inr round ↦ inr (elim (one_of_both (character == 40) _ round) [
              | inl opens ↦ inl (eqb-true character 40 opens)
              | inr closes ↦ inr (eqb-true character 41 closes)
            ])
          ])
        ])
      ])
    ]
  where
    digit_is : is_ascii_digit character ≡ true → (48 ≤ character) × (character ≤ 57)
    digit_is digit =
        let both = and_parts (nat_le 48 character) (nat_le character 57) digit in
        (leb-true 48 character both.0, leb-true character 57 both.1)

pub letter_character : (character : ℕ) → is_letter character ≡ true → is_character character ≡ true
letter_character character is = first_passes (is_letter character) _ is

pub digit_character : (character : ℕ) → is_ascii_digit character ≡ true
    → is_character character ≡ true
digit_character character is =
    second_passes (is_letter character) _ (first_passes (is_ascii_digit character) _ is)

pub character_passes : (character : ℕ) → IsCharacter character → is_character character ≡ true
character_passes character (inl letter) = letter_character character (letter_passes character letter)
character_passes character (inr (inl digit)) =
    digit_character character
    (and_from (nat_le 48 character) (nat_le character 57) (le-leb 48 character digit.0)
    (le-leb character 57 digit.1))
character_passes character (inr (inr (inl point))) = rw point refl
character_passes character (inr (inr (inr (inl comma)))) = rw comma refl
character_passes character (inr (inr (inr (inr (inl opens))))) = rw opens refl
character_passes character (inr (inr (inr (inr (inr closes))))) = rw closes refl

-- what passes a test of characters that are all of these
module _ (test : ℕ → Bool)
    (of_rules : (character : ℕ) → test character ≡ true → is_character character ≡ true) where
  tested_characters : (text : List ℕ) → list_all test text ≡ true → list_all is_character text ≡ true
  tested_characters [] is = refl
  tested_characters (character ∷ text) is =
      let both = and_parts (test character) (list_all test text) is in
      and_from (is_character character) (list_all is_character text) (of_rules character both.0)
      (tested_characters text both.1)

-- texts that are made of others
both_characters : (a b : List ℕ) → list_all is_character a ≡ true → list_all is_character b ≡ true
    → list_all is_character (a ++ b) ≡ true
both_characters a b one two =
    list_all-append is_character a b
    ∙ and_from (list_all is_character a) (list_all is_character b) one two

one_characters : (word inner : List ℕ) → list_all is_character word ≡ true
    → list_all is_character inner ≡ true → list_all is_character (one_text word inner) ≡ true
one_characters word inner opens one =
    both_characters word (inner ++ codes ")") opens (both_characters inner (codes ")") one refl)

two_characters : (word first second : List ℕ) → list_all is_character word ≡ true
    → list_all is_character first ≡ true → list_all is_character second ≡ true
    → list_all is_character (two_text word first second) ≡ true
two_characters word first second opens one two =
    both_characters word (first ++ (codes "," ++ (second ++ codes ")"))) opens
    (both_characters first (codes "," ++ (second ++ codes ")")) one
    (both_characters second (codes ")") two refl))

-- the texts of expressions have such characters alone
mutual
  pub sentence_characters : (formula : Formula (List ℕ)) → FormulaIsWritten formula
      → list_all is_character (sentence formula) ≡ true
  sentence_characters (Eq a b) fits =
      two_characters (codes "eq(") (words a) (words b) refl (words_characters a fits.0)
      (words_characters b fits.1)
  sentence_characters (Lt a b) fits =
      two_characters (codes "lt(") (words a) (words b) refl (words_characters a fits.0)
      (words_characters b fits.1)
  sentence_characters (Le a b) fits =
      two_characters (codes "le(") (words a) (words b) refl (words_characters a fits.0)
      (words_characters b fits.1)
  sentence_characters (Same a b) fits =
      two_characters (codes "same(") (sentence a) (sentence b) refl (sentence_characters a fits.0)
      (sentence_characters b fits.1)
  sentence_characters (Both a b) fits =
      two_characters (codes "both(") (sentence a) (sentence b) refl (sentence_characters a fits.0)
      (sentence_characters b fits.1)
  sentence_characters (Either a b) fits =
      two_characters (codes "either(") (sentence a) (sentence b) refl (sentence_characters a fits.0)
      (sentence_characters b fits.1)
  sentence_characters (Not a) fits =
      one_characters (codes "not(") (sentence a) refl (sentence_characters a fits)
  sentence_characters (All a) fits =
      one_characters (codes "all(") (sentence a) refl (sentence_characters a fits)
  sentence_characters (Any a) fits =
      one_characters (codes "any(") (sentence a) refl (sentence_characters a fits)

  words_characters : (term : Term (List ℕ)) → TermIsWritten term
      → list_all is_character (words term) ≡ true
  words_characters (Number n) fits =
      tested_characters is_ascii_digit digit_character (decimal n)
      (decimal_digits n (omega (arith, fits)))
  words_characters Id fits = refl
  words_characters Mark fits = refl
  words_characters Num fits = refl
  words_characters Degree fits = refl
  words_characters Pointed fits = refl
  words_characters (My f) fits =
      both_characters (codes "my.") f refl
      (tested_characters is_letter letter_character f (all_letters f fits.letters))
  words_characters (Up f) fits =
      both_characters (codes "up.") f refl
      (tested_characters is_letter letter_character f (all_letters f fits.0.letters))
  words_characters UpWeight fits = refl
  words_characters (Nb f) fits =
      both_characters (codes "nb.") f refl
      (tested_characters is_letter letter_character f (all_letters f fits.0.letters))
  words_characters NbWeight fits = refl
  words_characters NbUp fits = refl
  words_characters (Add a b) fits =
      two_characters (codes "add(") (words a) (words b) refl (words_characters a fits.0)
      (words_characters b fits.1)
  words_characters (Sum a b) fits =
      two_characters (codes "sum(") (sentence a) (words b) refl (sentence_characters a fits.0)
      (words_characters b fits.1)
