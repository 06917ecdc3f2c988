-- The text of an expression begins with a letter.
use Rattle.std.proofs.Common.{◌≡◌, ℕ, ◌==◌, true, false, List, [], ◌∷◌, refl, arith}
use Rattle.std.specs.List.{list_all}
use Rattle.std.proofs.lemmas.Bool.{and_parts}
use Rattle.std.proofs.lemmas.Bool.Decides.{nat_tests}
use Rattle.pls_fronts.specs.LetterFront.{is_letter}
use Rattle.pls_names.specs.Named.{name_of}
use Rattle.pls_names.specs.laws.NamedLaws.{is_lettered, laws_of}
use Rattle.pls_expressions.specs.Expression.{Expression, And, Bridgeless, Diameter, Map, Of, Or}
use Rattle.pls_scheme_text.specs.ExpressionText.{expression_text}

-- the first character is not `-`, which is 45
abbrev BeginsWell : List ℕ → Type 0
BeginsWell text = (first : ℕ) × (rest : List ℕ) × (text ≡ first ∷ rest) × ((first == 45) ≡ false)

letters_begin : (word : List ℕ) → is_lettered word ≡ true → BeginsWell word
letters_begin [] is = absurd (cc)
letters_begin (character ∷ word) is =
    let both = and_parts (is_letter character) (list_all is_letter word) is in
    (character, word, refl, other both.0)
  where
    other : is_letter character ≡ true → (character == 45) ≡ false
    other letter = grind (arith, nat_tests)

pub first_letter : (scheme : Expression) → BeginsWell (expression_text scheme)
first_letter (Of name) = letters_begin (name_of name) (laws_of name).lettered
first_letter (Diameter most) = (100, _, refl, refl)
first_letter Bridgeless = (98, _, refl, refl)
first_letter (Map property) = (109, _, refl, refl)
first_letter (And first second) = (97, _, refl, refl)
first_letter (Or first second) = (111, _, refl, refl)
