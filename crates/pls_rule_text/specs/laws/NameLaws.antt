-- Names are read where they stand, and nowhere else.
use Rattle.std.proofs.Common.{◌≡◌, ◌≢◌, ◌∙◌, ℕ, ◌≤◌, ◌++◌, ◌&&◌, nat_le, All, Bool, true, false, List, length, take, drop, codes, Some, None, if◌then◌else◌, refl, sym, ap, subst, arith}
use Rattle.std.specs.List.{list_all}
use Rattle.std.specs.Str.{bytes_eq}
use Rattle.std.proofs.Math.Seq.{drop-append_seam, take-append_seam}
use Rattle.std.proofs.lemmas.Bool.{and_from, and_parts, le-leb, leb-true}
use Rattle.std.proofs.lemmas.List.{take-append-drop}
use Rattle.std.proofs.lemmas.Option.{same_Some}
use Rattle.std.proofs.lemmas.Slice.Eq.{bytes_eq-Decides}
use Rattle.pls_fronts.specs.Front.{Front, followed}
use Rattle.pls_fronts.specs.LetterFront.{is_letter, letters_ahead}
use Rattle.pls_fronts.specs.laws.LetterFrontLaws.{letters_ahead-append, letters_in_front}
use Rattle.pls_rule_text.specs.FormulaText.{IsName}
use Rattle.pls_rule_text.specs.inner.Atoms.{name_front, name_from}
use Rattle.pls_rule_text.specs.laws.Tests.{all_tested, no_truth, tested_all}

-- small letters
abbrev pub IsLetter : ℕ → Type 0
IsLetter letter = (97 ≤ letter) × (letter ≤ 122)

pub letter_is : (letter : ℕ) → is_letter letter ≡ true → IsLetter letter
letter_is letter is =
    let both = and_parts (nat_le 97 letter) (nat_le letter 122) is in
    (leb-true 97 letter both.0, leb-true letter 122 both.1)

pub letter_passes : (letter : ℕ) → IsLetter letter → is_letter letter ≡ true
letter_passes letter is =
    and_from (nat_le 97 letter) (nat_le letter 122) (le-leb 97 letter is.0) (le-leb letter 122 is.1)

pub letters_all : (text : List ℕ) → list_all is_letter text ≡ true → All IsLetter text
letters_all text = all_tested IsLetter is_letter letter_is text

pub all_letters : (text : List ℕ) → All IsLetter text → list_all is_letter text ≡ true
all_letters text = tested_all IsLetter is_letter letter_passes text

-- letters that are found as a name are one
named_is : (letters rest : List ℕ) (found : Front (List ℕ)) → list_all is_letter letters ≡ true
    → name_from letters rest ≡ Some found
    → IsName found.item × (letters ++ rest ≡ found.item ++ found.rest)
named_is letters rest found all is =
    by (nat_le 1 (length letters) && nat_le (length letters) 16) refl is
  where
    by : (b : Bool) → (nat_le 1 (length letters) && nat_le (length letters) 16) ≡ b
        → (if b then Some (followed letters rest) else None) ≡ Some found
        → IsName found.item × (letters ++ rest ≡ found.item ++ found.rest)
    by false off same = absurd (cc)
    by true passes same =
        let both = and_parts (nat_le 1 (length letters)) (nat_le (length letters) 16) passes in
        let one : followed letters rest ≡ found = same_Some (followed letters rest) found same in
        let name : IsName letters = record {
          some = leb-true 1 (length letters) both.0;
          few = leb-true (length letters) 16 both.1;
          letters = letters_all letters all;
        } in (
          subst IsName (ap (λ (f : Front (List ℕ)). f.item) one) name,
          ap (λ (f : Front (List ℕ)). f.item ++ f.rest) one,
        )

pub name_is : (text : List ℕ) (found : Front (List ℕ)) → name_front text ≡ Some found
    → IsName found.item × (text ≡ found.item ++ found.rest)
name_is text found is =
    let count = letters_ahead text in
    let name = named_is (take count text) (drop count text) found (letters_in_front text) is in
    (name.0, sym (take-append-drop count text) ∙ name.1)

-- a name in front is read, where no letter follows it
pub name_read : (name rest : List ℕ) → IsName name → letters_ahead rest ≡ 0
    → name_front (name ++ rest) ≡ Some (followed name rest)
name_read name rest is none =
    let ahead : letters_ahead (name ++ rest) ≡ length name =
    letters_ahead-append name rest (all_letters name is.letters) none in
    rw (
      ahead,
      take-append_seam name rest,
      drop-append_seam name rest,
      le-leb 1 (length name) is.some,
      le-leb (length name) 16 is.few,
    ) refl

-- the words that are no field's are names too
pub weight_name : IsName (codes "weight")
weight_name = record {
  some = omega arith;
  few = omega arith;
  letters = letters_all (codes "weight") refl;
}

pub up_name : IsName (codes "up")
up_name = record { some = omega arith; few = omega arith; letters = letters_all (codes "up") refl }

-- whether a name is a word
pub same_word : (name word : List ℕ) → bytes_eq name word ≡ true → name ≡ word
same_word name word is = (bytes_eq-Decides name word).0 is

pub no_word : (name word : List ℕ) → bytes_eq name word ≡ false → name ≢ word
no_word name word off same = no_truth (sym off ∙ (bytes_eq-Decides name word).1 same)

pub other_word : (name word : List ℕ) → name ≢ word → bytes_eq name word ≡ false
other_word name word other = by (bytes_eq name word) refl
  where
    by : (b : Bool) → bytes_eq name word ≡ b → bytes_eq name word ≡ false
    by true is = absurd (other (same_word name word is))
    by false is = is
