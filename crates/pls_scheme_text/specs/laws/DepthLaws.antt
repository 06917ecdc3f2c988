-- How deep parentheses stand in the text of an expression.
use Rattle.std.proofs.Common.{◌≡◌, ◌∙◌, ◌↔◌, ℕ, ◌+◌, ◌-◌, ◌<◌, ◌≤◌, ◌++◌, max, Bool, true, false, List, [], ◌∷◌, codes, decimal, refl, sym, ap, subst, arith}
use Rattle.std.specs.List.{list_all}
use Rattle.std.specs.Char.{is_ascii_digit}
use Rattle.std.proofs.lemmas.List.{append-nil}
use Rattle.pls_fronts.specs.Depth.{deepest}
use Rattle.pls_fronts.specs.LetterFront.{is_letter}
use Rattle.pls_fronts.specs.laws.DepthLaws.{MakesDeep, all_plain, deep_one, deep_two, deep_word, is_plain, opens_behind, plain_digit, plain_letter}
use Rattle.pls_fronts.specs.laws.NumberFrontLaws.{decimal_digits}
use Rattle.pls_names.specs.Named.{name_of}
use Rattle.pls_names.specs.laws.NamedLaws.{is_lettered, laws_of}
use Rattle.pls_expressions.specs.Expression.{Expression, And, Bridgeless, Diameter, CanBeWritten, Map, Of, Or, depth_of}
use Rattle.pls_scheme_text.specs.ExpressionText.{IsTooDeep, expression_text}
use Rattle.pls_scheme_text.specs.laws.FrontLaws.{deep_some}

lettered_plain : (word : List ℕ) → is_lettered word ≡ true → list_all is_plain word ≡ true
lettered_plain [] is = refl
lettered_plain (character ∷ word) is = all_plain is_letter plain_letter (character ∷ word) is

-- two that are joined make one more, where the 1 of a name is not counted
deep_joined : (word first second : List ℕ) (a b : ℕ) → list_all is_plain word ≡ true → 1 ≤ a → 1 ≤ b
    → MakesDeep first (a - 1) → MakesDeep second (b - 1)
    → MakesDeep ((word ++ codes "(") ++ (first ++ (codes "," ++ (second ++ codes ")")))) (1 + max a b - 1)
deep_joined word first second a b plain one two deep_first deep_second =
    subst (MakesDeep ((word ++ codes "(") ++ (first ++ (codes "," ++ (second ++ codes ")")))))
    (omega (arith, one, two))
    (deep_two (word ++ codes "(") (opens_behind word plain) first second (a - 1) (b - 1) deep_first
    deep_second)

-- in the text of an expression they stand as deep as it is, but for the 1 of a name
deepest-text : (inside : Bool) (scheme : Expression) → CanBeWritten inside scheme
    → MakesDeep (expression_text scheme) (depth_of scheme - 1)
deepest-text inside (Of name) written =
    deep_word (name_of name) (lettered_plain (name_of name) (laws_of name).lettered)
deepest-text true (Diameter most) written =
    deep_word (codes "diameter:" ++ decimal most)
    (all_plain is_ascii_digit plain_digit (decimal most)
    (decimal_digits most (omega (arith, written))))
deepest-text true Bridgeless written = deep_word (codes "bridgeless") refl
deepest-text false (Diameter most) written = absurd written
deepest-text false Bridgeless written = absurd written
deepest-text true (Map property) written = absurd written
deepest-text false (Map property) written =
    subst (MakesDeep (expression_text (Map property))) (omega (arith, deep_some property))
    (deep_one (codes "map(") (opens_behind (codes "map") refl) (expression_text property)
    (depth_of property - 1) (deepest-text true property written))
deepest-text inside (And first second) written =
    deep_joined (codes "and") (expression_text first) (expression_text second) (depth_of first)
    (depth_of second) refl (deep_some first) (deep_some second)
    (deepest-text inside first written.0) (deepest-text inside second written.1)
deepest-text inside (Or first second) written =
    deep_joined (codes "or") (expression_text first) (expression_text second) (depth_of first)
    (depth_of second) refl (deep_some first) (deep_some second)
    (deepest-text inside first written.0) (deepest-text inside second written.1)

-- parentheses stand more than 7 deep in the text of an expression exactly where it is more than 8
pub deep_text : (scheme : Expression) → CanBeWritten false scheme
    → IsTooDeep (expression_text scheme) ↔ (8 < depth_of scheme)
deep_text scheme written = (λ deep. omega (arith, deep, whole), λ deep. omega (arith, deep, whole))
  where
    whole : deepest 0 (expression_text scheme) ≡ max (0 + (depth_of scheme - 1)) 0
    whole = ap (deepest 0) (sym (append-nil (expression_text scheme)))
        ∙ deepest-text false scheme written 0 []
