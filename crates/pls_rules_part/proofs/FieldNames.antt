-- The names of fields pass their test, and nothing else does.
use Rattle.std.proofs.Common.{◌≡◌, ℕ, IsUtf8, ◌&&◌, nat_le, nat_lt, Bool, true, false, List, length, codes, arith}
use Rattle.std.specs.List.{list_all}
use Rattle.std.proofs.lemmas.Bool.{and_from, and_parts, le-leb, leb-true, lt-ltb, ltb-true}
use Rattle.std.proofs.lemmas.Str.{IsUtf8-from_ascii}
use Rattle.std.proofs.lemmas.Str.Ascii.{IsAscii-from_all}
use Rattle.pls_fronts.specs.LetterFront.{is_letter}
use Rattle.pls_rule_text.specs.FormulaText.{IsFieldName, IsName}
use Rattle.pls_rule_text.specs.laws.NameLaws.{all_letters, letters_all}

abbrev pub passes : List ℕ → Bool
passes word = nat_lt 0 (length word) && (nat_le (length word) 16 && list_all is_letter word)

pub name_passes : (word : List ℕ) → IsName word → passes word ≡ true
name_passes word is =
    and_from (nat_lt 0 (length word)) _ (lt-ltb 0 (length word) (omega (arith, is.some)))
    (and_from (nat_le (length word) 16) (list_all is_letter word) (le-leb (length word) 16 is.few)
    (all_letters word is.letters))

pub name_of_test : (word : List ℕ) → passes word ≡ true → IsName word
name_of_test word test =
    let first = and_parts (nat_lt 0 (length word)) _ test in
    let others = and_parts (nat_le (length word) 16) (list_all is_letter word) first.1 in
    record {
      some = omega (arith, ltb-true 0 (length word) first.0);
      few = leb-true (length word) 16 others.0;
      letters = letters_all word others.1;
    }

pub field_name : (word : List ℕ) → passes word ≡ true
    → (word ≡ codes "weight" → false ≡ true) → (word ≡ codes "up" → false ≡ true) → IsFieldName word
field_name word test weight up = record {
  name_of = name_of_test word test;
  no_weight = λ same. absurd (cc (weight same));
  no_up = λ same. absurd (cc (up same));
}

-- a name is a text
pub name_is_text : (name : List ℕ) → IsName name → IsUtf8 name
name_is_text name is =
    IsUtf8-from_ascii name (IsAscii-from_all name (λ place other within.
    let letter = is.letters place other within in omega (arith, letter.1)))
