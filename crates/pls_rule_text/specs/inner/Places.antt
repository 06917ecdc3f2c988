-- Expressions whose fields stand by their places make sense as those whose fields stand by names.
use Rattle.std.specs.Prelude.{ℕ, ◌&&◌, nat_lt, Bool, true, false, Option, Some, None, if◌then◌else◌}
use Rattle.pls_streams.specs.declared.refusal_number.TheConstants.{DEPTH, FIELD}
use Rattle.pls_rules.specs.Formula.{Formula, Term, Eq, Lt, Le, Same, Both, Either, Not, All as Each, Any, Number, Id, Mark, Num, Degree, Pointed, My, Up, UpWeight, Nb, NbWeight, NbUp, Add, Sum, formula_nesting}

-- each place is below the number of fields, and what is asked of a neighbour stands inside a
-- quantifier, or `inside` says that it may stand here
module _ (count : ℕ) where
  abbrev mutual
    pub is_placed : Bool → Formula ℕ → Bool
    is_placed inside (Eq a b) = is_term_placed inside a && is_term_placed inside b
    is_placed inside (Lt a b) = is_term_placed inside a && is_term_placed inside b
    is_placed inside (Le a b) = is_term_placed inside a && is_term_placed inside b
    is_placed inside (Same a b) = is_placed inside a && is_placed inside b
    is_placed inside (Both a b) = is_placed inside a && is_placed inside b
    is_placed inside (Either a b) = is_placed inside a && is_placed inside b
    is_placed inside (Not a) = is_placed inside a
    is_placed inside (Each a) = is_placed true a
    is_placed inside (Any a) = is_placed true a

    pub is_term_placed : Bool → Term ℕ → Bool
    is_term_placed inside (Number n) = true
    is_term_placed inside Id = true
    is_term_placed inside Mark = true
    is_term_placed inside Num = true
    is_term_placed inside Degree = true
    is_term_placed inside Pointed = true
    is_term_placed inside (My f) = nat_lt f count
    is_term_placed inside (Up f) = nat_lt f count
    is_term_placed inside UpWeight = true
    is_term_placed inside (Nb f) = inside && nat_lt f count
    is_term_placed inside NbWeight = inside
    is_term_placed inside NbUp = inside
    is_term_placed inside (Add a b) = is_term_placed inside a && is_term_placed inside b
    is_term_placed inside (Sum a b) = is_placed true a && is_term_placed true b

-- the number by which a rule is refused whose fields stand by their places
abbrev pub placed_refusal : ℕ → Formula ℕ → Option ℕ
placed_refusal count formula =
    if nat_lt 2 (formula_nesting formula) then Some DEPTH
    else (if is_placed count false formula then None else Some FIELD)
