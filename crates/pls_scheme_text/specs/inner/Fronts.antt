-- What stands at the front of a text, read from the left: an expression with so many levels below
-- it, inside of `map` or not.
use Rattle.std.specs.Prelude.{ℕ, zero, suc, ◌-◌, nat_lt, min, Bool, true, false, List, codes, Option, Some, None, option_map, option_and_then, if◌then◌else◌}
use Rattle.std.specs.Borrow.{Bor}
use Rattle.std.specs.Option.{option_map_or, option_or}
use Rattle.pls_configuration.specs.declared.limits.TheConstants.{MAX_NODES}
use Rattle.pls_fronts.specs.Depth.{deepest}
use Rattle.pls_fronts.specs.Front.{Front, after, followed, whole_item, word_front}
use Rattle.pls_fronts.specs.NumberFront.{number_front}
use Rattle.pls_names.specs.Front.{name_front}
use Rattle.pls_expressions.specs.declared.expression_tree.ExpressionTree.{ExpressionTree}
use Rattle.pls_expressions.specs.Held.{expression_of}
use Rattle.pls_expressions.specs.Expression.{And, Bridgeless, Diameter, Expression, Map, Of, Or, count_of_names}
use Rattle.pls_scheme_text.specs.declared.fronts.Join.{Join}
use Rattle.pls_scheme_text.specs.declared.fronts.Join.TheVariants.{Both, Either}
use Rattle.pls_scheme_text.specs.declared.scheme_error.SchemeError.{SchemeError}
use Rattle.pls_scheme_text.specs.declared.scheme_error.SchemeError.TheVariants.{NotAScheme, TooDeep, TooMany}

-- the number of edges of a diameter
abbrev pub edges_front : List ℕ → Option (Front ℕ)
edges_front text = option_and_then (number_front (MAX_NODES - 1)) (after (codes "diameter:") text)

-- a property that has no scheme of its own
abbrev pub property_front : List ℕ → Option (Front Expression)
property_front text =
    option_or (word_front Bridgeless (codes "bridgeless") text)
    (option_map (λ most. followed (Diameter most.item) most.rest) (edges_front text))

-- a name, and inside of `map` also such a property
unfoldable pub leaf_front : Bool → List ℕ → Option (Front Expression)
leaf_front inside text =
    option_or (option_map (λ name. followed (Of name.item) name.rest) (name_front text))
    (if inside then property_front text else None)

-- what opens an expression of two
abbrev pub join_front : List ℕ → Option (Front Join)
join_front text =
    option_or (word_front Both (codes "and(") text) (word_front Either (codes "or(") text)

-- what follows `map(`, which stands in no other `map`
abbrev pub map_front : Bool → List ℕ → Option (List ℕ)
map_front inside text = if inside then None else after (codes "map(") text

-- two joined
abbrev pub expression_of_two : Join → Expression → Expression → Expression
expression_of_two Both first second = And first second
expression_of_two Either first second = Or first second

-- the end of an expression whose parts are read
abbrev pub close_front : Expression → List ℕ → Option (Front Expression)
close_front item rest = option_map (followed item) (after (codes ")") rest)

abbrev pub close_map : Front Expression → Option (Front Expression)
close_map property = close_front (Map property.item) property.rest

abbrev pub close_pair : Join → Expression → Front Expression → Option (Front Expression)
close_pair join first second = close_front (expression_of_two join first second.item) second.rest

-- what stands behind the first of two, whose second is read by `part`
abbrev pub second_front : (List ℕ → Option (Front Expression)) → Join → Front Expression
    → Option (Front Expression)
second_front part join first =
    option_and_then (λ behind. option_and_then (close_pair join first.item) (part behind))
    (after (codes ",") first.rest)

-- what stands behind the opening of two, each of which is read by `part`
abbrev pub pair_front : (List ℕ → Option (Front Expression)) → Front Join
    → Option (Front Expression)
pair_front part opened = option_and_then (second_front part opened.item) (part opened.rest)

-- what stands behind `map(`, read by `part`
abbrev pub inner_front : (List ℕ → Option (Front Expression)) → List ℕ → Option (Front Expression)
inner_front part behind = option_and_then close_map (part behind)

-- an expression with at most so many levels below it
abbrev pub expression_front : Bool → ℕ → List ℕ → Option (Front Expression)
expression_front inside zero text = leaf_front inside text
expression_front inside (suc below) text =
    option_or (leaf_front inside text)
    (option_map_or (pair_front (expression_front inside below)) (join_front text)
    (option_and_then (inner_front (expression_front true below)) (map_front inside text)))

-- what a call found, which lends what follows
abbrev pub found_tree : ExpressionTree × Bor (List ℕ) → Front Expression
found_tree found = followed (expression_of found.0) found.1.now

-- how many names an expression has, counted up to 255
abbrev pub count_front : Front Expression → Front ℕ
count_front front = followed (min (count_of_names front.item) 255) front.rest

-- the expression, at most 8 deep, that is the whole of a text
abbrev pub expression_in : List ℕ → Option Expression
expression_in text = option_and_then whole_item (expression_front false 7 text)

-- how many names it has, counted up to 255
abbrev pub names_in : List ℕ → Option ℕ
names_in text = option_and_then whole_item (option_map count_front (expression_front false 7 text))

-- why a text is refused that is read in this way
abbrev pub refused_names : Option ℕ → Option SchemeError
refused_names None = Some NotAScheme
refused_names (Some names) = if nat_lt 8 names then Some TooMany else None

abbrev pub scheme_refusal_of : List ℕ → Option SchemeError
scheme_refusal_of text =
    if nat_lt 7 (deepest 0 text) then Some TooDeep else refused_names (names_in text)
