-- What the text of a rule says, and when a rule makes sense over the names of fields.
use Rattle.std.specs.Prelude.{◌≡◌, ℕ, ◌+◌, ◌<◌, ◌≤◌, ◌&&◌, nat_lt, Bool, true, false, ◌⊎◌, All, List, [], ◌∷◌, length, Option, Some, None, if◌then◌else◌}
use Rattle.std.specs.List.{list_any}
use Rattle.std.specs.Str.{bytes_eq}
use Rattle.pls_streams.specs.declared.refusal_number.TheConstants.{DEPTH, FIELD}
use Rattle.pls_fronts.specs.Depth.{deepest}
use Rattle.pls_rules.specs.Formula.{Formula, Term, Eq, Lt, Le, Same, Both, Either, Not, All as Each, Any, Number, Id, Mark, Num, Degree, Pointed, My, Up, UpWeight, Nb, NbWeight, NbUp, Add, Sum, formula_height, formula_nesting}
use Rattle.pls_rule_text.specs.FormulaText.{FormulaIsWritten, formula_text}

-- what a rule says: a formula whose fields stand by their names, or, where parentheses stand more
-- than 31 deep, nothing but its characters
pub data RuleSaid : Type 0 where
  Shallow : Formula (List ℕ) → RuleSaid
  Deep : List ℕ → RuleSaid

-- the text of a rule
abbrev pub rule_text : RuleSaid → List ℕ
rule_text (Shallow formula) = formula_text (λ name. name) formula
rule_text (Deep text) = text

-- the characters of rules: small letters, digits, `.`, `,`, `(` and `)`
abbrev pub IsCharacter : ℕ → Type 0
IsCharacter character =
    ((97 ≤ character) × (character ≤ 122)) ⊎ (((48 ≤ character) × (character ≤ 57))
    ⊎ ((character ≡ 46) ⊎ ((character ≡ 44) ⊎ ((character ≡ 40) ⊎ (character ≡ 41)))))

-- a formula of the grammar in at most 4096 characters, in which parentheses stand at most 31 deep
pub record FitsFormula (formula : Formula (List ℕ)) : Type 0 where
  pub writable : FormulaIsWritten formula
  pub few : length (rule_text (Shallow formula)) ≤ 4096
  pub shallow : formula_height formula ≤ 31

-- at most 4096 characters of rules, among which parentheses stand more than 31 deep
pub record FitsDeep (text : List ℕ) : Type 0 where
  pub few : length text ≤ 4096
  pub characters : All IsCharacter text
  pub deep : 31 < deepest 0 text

-- what may stand in a rule line
abbrev pub FitsRule : RuleSaid → Type 0
FitsRule (Shallow formula) = FitsFormula formula
FitsRule (Deep text) = FitsDeep text

-- the text is that of a rule
pub record IsRuleText (text : List ℕ) : Type 0 where
  pub rule : RuleSaid
  pub fits : FitsRule rule
  pub written : text ≡ rule_text rule

-- the name is among these
abbrev pub is_among : List (List ℕ) → List ℕ → Bool
is_among names name = list_any (λ other. bytes_eq other name) names

-- the place of a name among some, from 0; where it is not among them, how many they are
abbrev pub place_of_name : List (List ℕ) → List ℕ → ℕ
place_of_name [] name = 0
place_of_name (first ∷ others) name =
    if bytes_eq first name then 0 else 1 + place_of_name others name

module _ (names : List (List ℕ)) where
  abbrev mutual
    -- each name in a formula is among these, and what is asked of a neighbour stands inside a
    -- quantifier, or `inside` says that it may stand here
    pub is_known : Bool → Formula (List ℕ) → Bool
    is_known inside (Eq a b) = is_term_known inside a && is_term_known inside b
    is_known inside (Lt a b) = is_term_known inside a && is_term_known inside b
    is_known inside (Le a b) = is_term_known inside a && is_term_known inside b
    is_known inside (Same a b) = is_known inside a && is_known inside b
    is_known inside (Both a b) = is_known inside a && is_known inside b
    is_known inside (Either a b) = is_known inside a && is_known inside b
    is_known inside (Not a) = is_known inside a
    is_known inside (Each a) = is_known true a
    is_known inside (Any a) = is_known true a

    -- each name in a term is among these, and what is asked of a neighbour stands inside a
    -- quantifier, or `inside` says that it may stand here
    pub is_term_known : Bool → Term (List ℕ) → Bool
    is_term_known inside (Number n) = true
    is_term_known inside Id = true
    is_term_known inside Mark = true
    is_term_known inside Num = true
    is_term_known inside Degree = true
    is_term_known inside Pointed = true
    is_term_known inside (My f) = is_among names f
    is_term_known inside (Up f) = is_among names f
    is_term_known inside UpWeight = true
    is_term_known inside (Nb f) = inside && is_among names f
    is_term_known inside NbWeight = inside
    is_term_known inside NbUp = inside
    is_term_known inside (Add a b) = is_term_known inside a && is_term_known inside b
    is_term_known inside (Sum a b) = is_known true a && is_term_known true b

module _ {F G : Type 0} (of : F → G) where
  abbrev mutual
    -- the formula with other fields in the place of its own
    pub formula_with : Formula F → Formula G
    formula_with (Eq a b) = Eq (term_with a) (term_with b)
    formula_with (Lt a b) = Lt (term_with a) (term_with b)
    formula_with (Le a b) = Le (term_with a) (term_with b)
    formula_with (Same a b) = Same (formula_with a) (formula_with b)
    formula_with (Both a b) = Both (formula_with a) (formula_with b)
    formula_with (Either a b) = Either (formula_with a) (formula_with b)
    formula_with (Not a) = Not (formula_with a)
    formula_with (Each a) = Each (formula_with a)
    formula_with (Any a) = Any (formula_with a)

    -- the term with other fields in the place of its own
    pub term_with : Term F → Term G
    term_with (Number n) = Number n
    term_with Id = Id
    term_with Mark = Mark
    term_with Num = Num
    term_with Degree = Degree
    term_with Pointed = Pointed
    term_with (My f) = My (of f)
    term_with (Up f) = Up (of f)
    term_with UpWeight = UpWeight
    term_with (Nb f) = Nb (of f)
    term_with NbWeight = NbWeight
    term_with NbUp = NbUp
    term_with (Add a b) = Add (term_with a) (term_with b)
    term_with (Sum a b) = Sum (formula_with a) (term_with b)

-- the number by which a rule over these names is refused: 51 where parentheses stand more than 31
-- deep, or more than 2 quantifiers inside one another; else 50 where a name is none of these, or a
-- neighbour is asked outside of all quantifiers
abbrev pub rule_refusal : List (List ℕ) → RuleSaid → Option ℕ
rule_refusal names (Deep text) = Some DEPTH
rule_refusal names (Shallow formula) =
    if nat_lt 2 (formula_nesting formula) then Some DEPTH
    else (if is_known names false formula then None else Some FIELD)
