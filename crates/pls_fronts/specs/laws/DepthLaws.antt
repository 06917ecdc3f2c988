-- How deep parentheses stand in texts that are made of others.
use Rattle.std.proofs.Common.{◌≡◌, ◌∙◌, ℕ, ◌+◌, ◌-◌, ◌≤◌, ◌==◌, ◌++◌, ◌&&◌, max, not, Bool, true, false, List, [], ◌∷◌, codes, if◌then◌else◌, refl, ap, arith}
use Rattle.std.specs.List.{list_all}
use Rattle.std.specs.Char.{is_ascii_digit}
use Rattle.std.proofs.lemmas.Bool.{and_from, and_parts}
use Rattle.std.proofs.lemmas.Bool.Decides.{nat_tests}
use Rattle.std.proofs.lemmas.List.{append_assoc}
use Rattle.pls_fronts.specs.Depth.{deepest, depth_after}
use Rattle.pls_fronts.specs.LetterFront.{is_letter}

-- characters that are no parenthesis
abbrev pub is_plain : ℕ → Bool
is_plain character = not (character == 40) && not (character == 41)

-- parentheses stand at least as deep as in front
pub deepest-start : (depth : ℕ) (text : List ℕ) → depth ≤ deepest depth text
deepest-start depth [] = omega arith
deepest-start depth (character ∷ text) = omega arith

plain_step : (depth character : ℕ) → is_plain character ≡ true → depth_after depth character ≡ depth
plain_step depth character plain = by (character == 40) (character == 41) plain
  where
    by : (opens closes : Bool) → (not opens && not closes) ≡ true
        → (if opens then depth + 1 else (if closes then depth - 1 else depth)) ≡ depth
    by true closes is = absurd (cc)
    by false true is = absurd (cc)
    by false false is = refl

-- a word without parentheses makes it no deeper
pub deepest-plain : (depth : ℕ) (word rest : List ℕ) → list_all is_plain word ≡ true
    → deepest depth (word ++ rest) ≡ deepest depth rest
deepest-plain depth [] rest plain = refl
deepest-plain depth (character ∷ word) rest plain =
    let both = and_parts (is_plain character) (list_all is_plain word) plain in
    let later = deepest-plain depth word rest both.1 in
    let from = deepest-start depth rest in
    rw (plain_step depth character both.0, later) (omega (arith, from))

-- what passes a test that no parenthesis passes has none
module _ (test : ℕ → Bool) (plain : (character : ℕ) → test character ≡ true → is_plain character ≡ true)
  where
    pub all_plain : (word : List ℕ) → list_all test word ≡ true → list_all is_plain word ≡ true
    all_plain [] all = refl
    all_plain (character ∷ word) all =
        let both = and_parts (test character) (list_all test word) all in
        and_from (is_plain character) (list_all is_plain word) (plain character both.0)
        (all_plain word both.1)

pub plain_digit : (character : ℕ) → is_ascii_digit character ≡ true → is_plain character ≡ true
plain_digit character is = grind (arith, nat_tests)

pub plain_letter : (character : ℕ) → is_letter character ≡ true → is_plain character ≡ true
plain_letter character is = grind (arith, nat_tests)

-- the text makes parentheses so much deeper, and closes them all
abbrev pub MakesDeep : List ℕ → ℕ → Type 0
MakesDeep text deep =
    (depth : ℕ) (rest : List ℕ) → deepest depth (text ++ rest) ≡ max (depth + deep) (deepest depth rest)

-- a word without parentheses makes it no deeper
pub deep_word : (word : List ℕ) → list_all is_plain word ≡ true → MakesDeep word 0
deep_word word plain depth rest =
    let same = deepest-plain depth word rest plain in
    omega (arith, same, deepest-start depth rest)

-- a word that ends with `(`, and has no other parenthesis
abbrev pub Opens : List ℕ → Type 0
Opens word = (depth : ℕ) (rest : List ℕ)
    → deepest depth (word ++ rest) ≡ max depth (deepest (depth + 1) rest)

-- a word in front of `(` opens
pub opens_behind : (word : List ℕ) → list_all is_plain word ≡ true → Opens (word ++ codes "(")
opens_behind word plain depth rest =
    ap (deepest depth) (append_assoc word (codes "(") rest)
    ∙ deepest-plain depth word (codes "(" ++ rest) plain

-- what closes one
closes : (depth : ℕ) (rest : List ℕ)
    → deepest (depth + 1) (codes ")" ++ rest) ≡ max (depth + 1) (deepest depth rest)
closes depth rest =
    let back : depth + 1 - 1 ≡ depth = omega arith in
    ap (λ (d : ℕ). max (depth + 1) (deepest d rest)) back

module _ (opening : List ℕ) (opens : Opens opening) where
  -- parentheses round a text make it one deeper
  pub deep_one : (inner : List ℕ) (a : ℕ) → MakesDeep inner a
      → MakesDeep (opening ++ (inner ++ codes ")")) (1 + a)
  deep_one inner a makes depth rest =
      let inside = makes (depth + 1) (codes ")" ++ rest) in
      let whole = opens depth (inner ++ (codes ")" ++ rest)) in
      ap (deepest depth) (append_assoc opening (inner ++ codes ")") rest
      ∙ ap (λ (t : List ℕ). opening ++ t) (append_assoc inner (codes ")") rest))
      ∙ omega (arith, inside, whole, closes depth rest, deepest-start depth rest)

  -- and so do parentheses round two, with a comma between
  pub deep_two : (first second : List ℕ) (a b : ℕ) → MakesDeep first a → MakesDeep second b
      → MakesDeep (opening ++ (first ++ (codes "," ++ (second ++ codes ")")))) (1 + max a b)
  deep_two first second a b makes_first makes_second depth rest =
      let later = makes_second (depth + 1) (codes ")" ++ rest) in
      let comma : deepest (depth + 1) (codes "," ++ (second ++ (codes ")" ++ rest)))
      ≡ max (depth + 1) (deepest (depth + 1) (second ++ (codes ")" ++ rest))) = refl in
      let inside = makes_first (depth + 1) (codes "," ++ (second ++ (codes ")" ++ rest))) in
      let whole = opens depth (first ++ (codes "," ++ (second ++ (codes ")" ++ rest)))) in
      ap (deepest depth) (append_assoc opening (first ++ (codes "," ++ (second ++ codes ")"))) rest
      ∙ ap (λ (t : List ℕ). opening ++ t)
      (append_assoc first (codes "," ++ (second ++ codes ")")) rest
      ∙ ap (λ (t : List ℕ). first ++ (codes "," ++ t)) (append_assoc second (codes ")") rest)))
      ∙ omega (arith, later, comma, inside, whole, closes depth rest, deepest-start depth rest)
