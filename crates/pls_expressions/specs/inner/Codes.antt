-- Expressions as lists of words, by which their values are told apart: a leaf, and `map`, `and` and
-- `or` behind what they join.
use Rattle.std.proofs.Common.{◌≡◌, ◌∙◌, ◌⊎◌, inl, inr, ℕ, zero, suc, List, [], ◌∷◌, ◌++◌, refl, sym, ap}
use Rattle.std.specs.Coded.{Coded, code_by, coded_list, coded⊎, coded_ℕ}
use Rattle.std.proofs.lemmas.List.{append-nil, append_assoc}
use Rattle.pls_names.specs.contracts.scheme_name.SchemeName as names
use Rattle.pls_names.specs.declared.scheme_name.SchemeName.{SchemeName}
use Rattle.pls_expressions.specs.Expression.{Expression, And, Bridgeless, Diameter, Map, Of, Or}

-- a word: a name; or 0 for `and`, 1 for `or`, 2 for `map`, 3 for `bridgeless`, and 4 and more for a
-- diameter
abbrev Word : Type 0
Word = SchemeName ⊎ ℕ

-- the words of an expression
abbrev words_of : Expression → List Word
words_of (Of name) = inl name ∷ []
words_of (Diameter most) = inr (suc (suc (suc (suc most)))) ∷ []
words_of Bridgeless = inr 3 ∷ []
words_of (Map property) = words_of property ++ inr 2 ∷ []
words_of (And first second) = words_of first ++ (words_of second ++ inr 0 ∷ [])
words_of (Or first second) = words_of first ++ (words_of second ++ inr 1 ∷ [])

-- what a word makes of the expressions so far, the last of which stands first
abbrev taken : Word → List Expression → List Expression
taken (inl name) others = Of name ∷ others
taken (inr (suc (suc (suc (suc most))))) others = Diameter most ∷ others
taken (inr (suc (suc (suc zero)))) others = Bridgeless ∷ others
taken (inr (suc (suc zero))) (property ∷ others) = Map property ∷ others
taken (inr zero) (second ∷ first ∷ others) = And first second ∷ others
taken (inr (suc zero)) (second ∷ first ∷ others) = Or first second ∷ others
taken word others = []

-- what words make of them
abbrev all_taken : List Word → List Expression → List Expression
all_taken [] others = others
all_taken (word ∷ words) others = all_taken words (taken word others)

-- the words of an expression make it
all_taken-words : (scheme : Expression) (words : List Word) (others : List Expression)
    → all_taken (words_of scheme ++ words) others ≡ all_taken words (scheme ∷ others)
all_taken-words (Of name) words others = refl
all_taken-words (Diameter most) words others = refl
all_taken-words Bridgeless words others = refl
all_taken-words (Map property) words others =
    ap (λ (words : List Word). all_taken words others)
    (append_assoc (words_of property) (inr 2 ∷ []) words)
    ∙ all_taken-words property (inr 2 ∷ words) others
all_taken-words (And first second) words others =
    ap (λ (words : List Word). all_taken words others)
    (append_assoc (words_of first) (words_of second ++ inr 0 ∷ []) words)
    ∙ all_taken-words first ((words_of second ++ inr 0 ∷ []) ++ words) others
    ∙ ap (λ (words : List Word). all_taken words (first ∷ others))
    (append_assoc (words_of second) (inr 0 ∷ []) words)
    ∙ all_taken-words second (inr 0 ∷ words) (first ∷ others)
all_taken-words (Or first second) words others =
    ap (λ (words : List Word). all_taken words others)
    (append_assoc (words_of first) (words_of second ++ inr 1 ∷ []) words)
    ∙ all_taken-words first ((words_of second ++ inr 1 ∷ []) ++ words) others
    ∙ ap (λ (words : List Word). all_taken words (first ∷ others))
    (append_assoc (words_of second) (inr 1 ∷ []) words)
    ∙ all_taken-words second (inr 1 ∷ words) (first ∷ others)

-- the first of some expressions, and some expression where there is none
abbrev first_expression : List Expression → Expression
first_expression [] = Bridgeless
first_expression (first ∷ others) = first

-- the expression of some words
abbrev expression_of_words : List Word → Expression
expression_of_words words = first_expression (all_taken words [])

pub expression_of_words-words : (scheme : Expression)
    → expression_of_words (words_of scheme) ≡ scheme
expression_of_words-words scheme =
    ap expression_of_words (sym (append-nil (words_of scheme)))
    ∙ ap first_expression (all_taken-words scheme [] [])

-- expressions are told apart by their words
abbrev pub coded_expression : Coded Expression
coded_expression =
    code_by (List Word) (coded_list (coded⊎ names.the_row.coded coded_ℕ)) words_of
    expression_of_words
    expression_of_words-words
