-- All letters at the front of a text are found, and nothing else.
use Rattle.std.proofs.Common.{◌≡◌, ℕ, ◌≤◌, ◌++◌, Bool, true, false, List, [], ◌∷◌, length, take, refl, arith}
use Rattle.std.specs.List.{list_all}
use Rattle.std.proofs.lemmas.Bool.{and_from, and_parts}
use Rattle.pls_fronts.specs.LetterFront.{is_letter, letters_ahead}

-- letters, in front of what begins with none, are all that stand in front
pub letters_ahead-append : (letters rest : List ℕ) → list_all is_letter letters ≡ true
    → letters_ahead rest ≡ 0 → letters_ahead (letters ++ rest) ≡ length letters
letters_ahead-append [] rest all none = none
letters_ahead-append (letter ∷ letters) rest all none =
    let both = and_parts (is_letter letter) (list_all is_letter letters) all in
    let later = letters_ahead-append letters rest both.1 none in
    rw both.0 (omega (arith, later))

-- no more letters stand in front than there are characters
pub letters_ahead-le : (text : List ℕ) → letters_ahead text ≤ length text
letters_ahead-le [] = omega arith
letters_ahead-le (character ∷ text) =
    by (is_letter character) refl (letters_ahead-le text)
  where
    by : (b : Bool) → is_letter character ≡ b → letters_ahead text ≤ length text
        → letters_ahead (character ∷ text) ≤ length (character ∷ text)
    by true is later = rw is (omega (arith, later))
    by false is later = rw is (omega arith)

-- what is counted are letters
pub letters_in_front : (text : List ℕ) → list_all is_letter (take (letters_ahead text) text) ≡ true
letters_in_front [] = refl
letters_in_front (character ∷ text) =
    by (is_letter character) refl (letters_in_front text)
  where
    by : (b : Bool) → is_letter character ≡ b
        → list_all is_letter (take (letters_ahead text) text) ≡ true
        → list_all is_letter (take (letters_ahead (character ∷ text)) (character ∷ text)) ≡ true
    by true is later =
        rw is (and_from (is_letter character) (list_all is_letter (take (letters_ahead text) text)) is later)
    by false is later = rw is refl
