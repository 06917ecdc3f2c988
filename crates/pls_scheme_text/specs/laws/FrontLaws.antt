-- What stands at the front of a text: an expression is read where its text stands, and nowhere
-- else.
use Rattle.std.proofs.Common.{◌≡◌, ◌∙◌, inl, inr, ℕ, max, zero, suc, ◌+◌, ◌-◌, ◌≤◌, ◌++◌, Bool, true, false, List, codes, decimal, Option, Some, None, option_map, refl, sym, ap, subst, arith}
use Rattle.std.specs.Option.{option_and_then, option_map_or}
use Rattle.std.proofs.lemmas.List.{append_assoc}
use Rattle.std.proofs.lemmas.Option.{option_and_then_some, same_Some}
use Rattle.pls_names.specs.declared.scheme_name.SchemeName.{SchemeName}
use Rattle.pls_names.specs.Named.{name_of}
use Rattle.pls_fronts.specs.Front.{Front, after, followed, word_front}
use Rattle.pls_fronts.specs.NumberFront.{digits_ahead, number_front}
use Rattle.pls_fronts.specs.laws.FrontLaws.{after_is, either_found, worded_is}
use Rattle.pls_fronts.specs.laws.NumberFrontLaws.{number_is, number_read}
use Rattle.pls_configuration.specs.declared.limits.TheConstants.{MAX_NODES}
use Rattle.pls_names.specs.Front.{name_front}
use Rattle.pls_names.specs.laws.FrontLaws.{name_found}
use Rattle.pls_names.specs.laws.NamedLaws.{laws_of}
use Rattle.pls_expressions.specs.Expression.{Expression, And, Bridgeless, Diameter, CanBeWritten, Map, Of, Or, depth_of}
use Rattle.pls_scheme_text.specs.declared.fronts.Join.{Join}
use Rattle.pls_scheme_text.specs.declared.fronts.Join.TheVariants.{Both, Either}
use Rattle.pls_scheme_text.specs.ExpressionText.{expression_text}
use Rattle.pls_scheme_text.specs.inner.Fronts.{close_front, close_map, close_pair, edges_front, expression_front, inner_front, join_front, expression_of_two, leaf_front, map_front, pair_front, property_front, second_front}

-- an expression is at least 1 deep
pub deep_some : (scheme : Expression) → 1 ≤ depth_of scheme
deep_some (Of name) = omega arith
deep_some (Diameter most) = omega arith
deep_some Bridgeless = omega arith
deep_some (Map property) = omega arith
deep_some (And first second) = omega arith
deep_some (Or first second) = omega arith

-- two and what joins them, behind what opens them and in front of more
abbrev pub behind_opening : List ℕ → List ℕ → List ℕ → List ℕ
behind_opening first second rest = first ++ (codes "," ++ (second ++ (codes ")" ++ rest)))

-- two with parentheses round them and a comma between, in front of more
pub pair_onto : (opening first second rest : List ℕ)
    → (opening ++ (first ++ (codes "," ++ (second ++ codes ")")))) ++ rest
    ≡ opening ++ behind_opening first second rest
pair_onto opening first second rest =
    append_assoc opening (first ++ (codes "," ++ (second ++ codes ")"))) rest
    ∙ ap (λ (t : List ℕ). opening ++ t)
    (append_assoc first (codes "," ++ (second ++ codes ")")) rest
    ∙ ap (λ (t : List ℕ). first ++ (codes "," ++ t)) (append_assoc second (codes ")") rest))

-- one with parentheses round it, in front of more
pub map_onto : (text rest : List ℕ)
    → (codes "map(" ++ (text ++ codes ")")) ++ rest ≡ codes "map(" ++ (text ++ (codes ")" ++ rest))
map_onto text rest =
    append_assoc (codes "map(") (text ++ codes ")") rest
    ∙ ap (λ (t : List ℕ). codes "map(" ++ t) (append_assoc text (codes ")") rest)

-- what opens an expression of two
abbrev opening_of : Join → List ℕ
opening_of Both = codes "and("
opening_of Either = codes "or("

joined_text : (join : Join) (first second : Expression) (rest : List ℕ)
    → expression_text (expression_of_two join first second) ++ rest
    ≡ opening_of join ++ behind_opening (expression_text first) (expression_text second) rest
joined_text Both first second rest =
    pair_onto (codes "and(") (expression_text first) (expression_text second) rest
joined_text Either first second rest =
    pair_onto (codes "or(") (expression_text first) (expression_text second) rest

-- it is read, and begins no leaf
opening_read : (join : Join) (rest : List ℕ)
    → join_front (opening_of join ++ rest) ≡ Some (followed join rest)
opening_read Both rest = refl
opening_read Either rest = refl

opening_leafless : (inside : Bool) (join : Join) (rest : List ℕ)
    → leaf_front inside (opening_of join ++ rest) ≡ None
unfolding leaf_front
opening_leafless true Both rest = refl
opening_leafless false Both rest = refl
opening_leafless true Either rest = refl
opening_leafless false Either rest = refl

-- nor does `map(`
map_leafless : (rest : List ℕ) → leaf_front false (codes "map(" ++ rest) ≡ None
unfolding leaf_front
map_leafless rest = refl

-- a leaf in front is read
leaf_read : (inside : Bool) (below : ℕ) (text : List ℕ) (leaf : Expression) (rest : List ℕ)
    → leaf_front inside text ≡ Some (followed leaf rest)
    → expression_front inside below text ≡ Some (followed leaf rest)
leaf_read inside zero text leaf rest is = is
leaf_read inside (suc below) text leaf rest is = rw is refl

-- an expression in front of a text in which no digit follows it
abbrev IsReadAs : Bool → ℕ → Expression → Type 0
IsReadAs inside below scheme = (rest : List ℕ) → digits_ahead rest ≡ 0
    → expression_front inside below (expression_text scheme ++ rest) ≡ Some (followed scheme rest)

-- two in front are read, where the parts are
pair_read : (inside : Bool) (below : ℕ) (join : Join) (first second : Expression)
    → IsReadAs inside below first → IsReadAs inside below second
    → IsReadAs inside (suc below) (expression_of_two join first second)
pair_read inside below join first second one two rest none =
    let behind = behind_opening (expression_text first) (expression_text second) rest in
    ap (expression_front inside (suc below)) (joined_text join first second rest)
    ∙ rw (
      opening_leafless inside join behind,
      opening_read join behind,
      one (codes "," ++ (expression_text second ++ (codes ")" ++ rest))) refl,
      two (codes ")" ++ rest) refl,
    ) refl

map_read : (below : ℕ) (property : Expression) → IsReadAs true below property
    → IsReadAs false (suc below) (Map property)
map_read below property one rest none =
    ap (expression_front false (suc below)) (map_onto (expression_text property) rest)
    ∙ rw (
      map_leafless (expression_text property ++ (codes ")" ++ rest)),
      one (codes ")" ++ rest) refl,
    ) refl

name_read : (inside : Bool) (below : ℕ) (name : SchemeName) → IsReadAs inside below (Of name)
unfolding leaf_front
name_read inside below name rest none =
    leaf_read inside below (name_of name ++ rest) (Of name) rest (rw ((laws_of name).read rest) refl)

diameter_read : (below most : ℕ) → CanBeWritten true (Diameter most)
    → IsReadAs true below (Diameter most)
unfolding leaf_front
diameter_read below most small rest none =
    leaf_read true below (codes "diameter:" ++ (decimal most ++ rest)) (Diameter most) rest
    (rw (number_read (MAX_NODES - 1) most (omega (arith, small)) (omega (arith, small)) rest none) refl)

bridgeless_read : (below : ℕ) → IsReadAs true below Bridgeless
unfolding leaf_front
bridgeless_read below rest none = leaf_read true below _ Bridgeless rest refl

-- an expression in front is read, where it is not too deep and no digit follows it
pub front_read : (inside : Bool) (below : ℕ) (scheme : Expression) → depth_of scheme ≤ below + 1
    → CanBeWritten inside scheme → IsReadAs inside below scheme
front_read inside below (Of name) shallow written = name_read inside below name
front_read true below (Diameter most) shallow written = diameter_read below most written
front_read true below Bridgeless shallow written = bridgeless_read below
front_read false below (Diameter most) shallow written = absurd written
front_read false below Bridgeless shallow written = absurd written
front_read true below (Map property) shallow written = absurd written
front_read inside zero (Map property) shallow written =
    absurd (omega (arith, shallow, deep_some property))
front_read inside zero (And first second) shallow written =
    absurd (omega (arith, shallow, deep_some first))
front_read inside zero (Or first second) shallow written =
    absurd (omega (arith, shallow, deep_some first))
front_read false (suc below) (Map property) shallow written =
    map_read below property (front_read true below property (omega (arith, shallow)) written)
front_read inside (suc below) (And first second) shallow written =
    pair_read inside below Both first second
    (front_read inside below first (omega (arith, shallow)) written.0)
    (front_read inside below second (omega (arith, shallow)) written.1)
front_read inside (suc below) (Or first second) shallow written =
    pair_read inside below Either first second
    (front_read inside below first (omega (arith, shallow)) written.0)
    (front_read inside below second (omega (arith, shallow)) written.1)

-- an expression stands in front of a text, can be written, and is not too deep
pub record IsInFront (inside : Bool) (below : ℕ) (text : List ℕ) (found : Front Expression) : Type 0
  where
    pub stands : text ≡ expression_text found.item ++ found.rest
    pub shallow : depth_of found.item ≤ below + 1
    pub written : CanBeWritten inside found.item

named_is : (inside : Bool) (below : ℕ) (text : List ℕ) (found : Front Expression)
    → option_map (λ name. followed (Of name.item) name.rest) (name_front text) ≡ Some found
    → IsInFront inside below text found
named_is inside below text found is = by (name_front text) refl is
  where
    by : (name : Option (Front SchemeName)) → name_front text ≡ name
        → option_map (λ name. followed (Of name.item) name.rest) name ≡ Some found
        → IsInFront inside below text found
    by None at same = absurd (cc)
    by (Some name) at same =
        let one : followed (Of name.item) name.rest ≡ found =
        same_Some (followed (Of name.item) name.rest) found same in
        subst (IsInFront inside below text) one
        (record { stands = name_found text name at; shallow = omega arith; written = tt })

bridgeless_is : (below : ℕ) (text : List ℕ) (found : Front Expression)
    → word_front Bridgeless (codes "bridgeless") text ≡ Some found → IsInFront true below text found
bridgeless_is below text found is =
    let one = worded_is Bridgeless (codes "bridgeless") text found is in
    let same : followed Bridgeless found.rest ≡ found =
    ap (λ (item : Expression). followed item found.rest) one.0 in
    subst (IsInFront true below text) same
    (record { stands = one.1; shallow = omega arith; written = tt })

diameter_is : (below : ℕ) (text : List ℕ) (found : Front Expression)
    → option_map (λ most. followed (Diameter most.item) most.rest) (edges_front text) ≡ Some found
    → IsInFront true below text found
diameter_is below text found is = by (edges_front text) refl is
  where
    by : (most : Option (Front ℕ)) → edges_front text ≡ most
        → option_map (λ most. followed (Diameter most.item) most.rest) most ≡ Some found
        → IsInFront true below text found
    by None at same = absurd (cc)
    by (Some most) at same =
        option_and_then_some (number_front (MAX_NODES - 1)) (after (codes "diameter:") text) most at
        (λ behind word number.
        let one : followed (Diameter most.item) most.rest ≡ found =
        same_Some (followed (Diameter most.item) most.rest) found same in
        let front = number_is (MAX_NODES - 1) behind most number in
        let stands : text ≡ expression_text (Diameter most.item) ++ most.rest =
        after_is (codes "diameter:") text behind word
        ∙ ap (λ (t : List ℕ). codes "diameter:" ++ t) front.0 in
        subst (IsInFront true below text) one
        (record { stands = stands; shallow = omega arith; written = omega (arith, front.1) }))

property_is : (below : ℕ) (text : List ℕ) (found : Front Expression)
    → property_front text ≡ Some found → IsInFront true below text found
property_is below text found is =
    elim (either_found (word_front Bridgeless (codes "bridgeless") text)
    (option_map (λ most. followed (Diameter most.item) most.rest) (edges_front text)) found is) [
      | inl here ↦ bridgeless_is below text found here
      | inr here ↦ diameter_is below text found here
    ]

-- a leaf that is found stands in front
leaf_is : (inside : Bool) (below : ℕ) (text : List ℕ) (found : Front Expression)
    → leaf_front inside text ≡ Some found → IsInFront inside below text found
unfolding leaf_front
leaf_is true below text found is =
    elim (either_found (option_map (λ name. followed (Of name.item) name.rest) (name_front text))
    (property_front text) found is) [
      | inl here ↦ named_is true below text found here
      | inr here ↦ property_is below text found here
    ]
leaf_is false below text found is =
    elim (either_found (option_map (λ name. followed (Of name.item) name.rest) (name_front text)) None
    found is) [
      | inl here ↦ named_is false below text found here
      | inr here ↦ absurd (cc)
    ]

-- what closes an expression stands there
close_is : (item : Expression) (text : List ℕ) (found : Front Expression)
    → close_front item text ≡ Some found → (item ≡ found.item) × (text ≡ codes ")" ++ found.rest)
close_is item text found is = worded_is item (codes ")") text found is

-- what opens an expression of two stands in front where it is found
join_is : (text : List ℕ) (opened : Front Join) → join_front text ≡ Some opened
    → text ≡ opening_of opened.item ++ opened.rest
join_is text opened is =
    elim (either_found (word_front Both (codes "and(") text) (word_front Either (codes "or(") text) opened is) [
      | inl here ↦ one Both here
      | inr here ↦ one Either here
    ]
  where
    one : (join : Join) → word_front join (opening_of join) text ≡ Some opened
        → text ≡ opening_of opened.item ++ opened.rest
    one join here =
        let is = worded_is join (opening_of join) text opened here in
        is.1 ∙ ap (λ (join : Join). opening_of join ++ opened.rest) is.0

joined_deep : (join : Join) (first second : Expression)
    → depth_of (expression_of_two join first second) ≡ 1 + max (depth_of first) (depth_of second)
joined_deep Both first second = refl
joined_deep Either first second = refl

joined_writable : (inside : Bool) (join : Join) (first second : Expression)
    → CanBeWritten inside first → CanBeWritten inside second
    → CanBeWritten inside (expression_of_two join first second)
joined_writable inside Both first second one two = (one, two)
joined_writable inside Either first second one two = (one, two)

-- where the expressions that are found with so many levels below them stand in front,
module _ (below : ℕ) (parts_are : (inside : Bool) (text : List ℕ) (found : Front Expression)
    → expression_front inside below text ≡ Some found → IsInFront inside below text found) where
  -- two that are found do
  pair_is : (inside : Bool) (text : List ℕ) (opened : Front Join)
      → join_front text ≡ Some opened → (found : Front Expression)
      → pair_front (expression_front inside below) opened ≡ Some found
      → IsInFront inside (suc below) text found
  pair_is inside text opened opens found is =
      option_and_then_some (second_front (expression_front inside below) opened.item)
      (expression_front inside below opened.rest) found is
      (λ first one behind_first.
      option_and_then_some
      (λ behind. option_and_then (close_pair opened.item first.item)
      (expression_front inside below behind)) (after (codes ",") first.rest) found behind_first
      (λ behind comma behind_comma.
      option_and_then_some (close_pair opened.item first.item)
      (expression_front inside below behind) found behind_comma
      (λ second two closes. whole first one behind comma second two closes)))
    where
      whole : (first : Front Expression)
          → expression_front inside below opened.rest ≡ Some first → (behind : List ℕ)
          → after (codes ",") first.rest ≡ Some behind → (second : Front Expression)
          → expression_front inside below behind ≡ Some second
          → close_pair opened.item first.item second ≡ Some found
          → IsInFront inside (suc below) text found
      whole first one behind comma second two closes =
          let front = parts_are inside opened.rest first one in
          let back = parts_are inside behind second two in
          let pair = expression_of_two opened.item first.item second.item in
          let end = close_is pair second.rest found closes in
          let same : followed pair found.rest ≡ found =
          ap (λ (item : Expression). followed item found.rest) end.0 in
          let deep = joined_deep opened.item first.item second.item in
          subst (IsInFront inside (suc below) text) same (record {
            stands = join_is text opened opens
                ∙ ap (λ (t : List ℕ). opening_of opened.item ++ t)
                (front.stands ∙ ap (λ (t : List ℕ). expression_text first.item ++ t)
                (after_is (codes ",") first.rest behind comma
                ∙ ap (λ (t : List ℕ). codes "," ++ t)
                (back.stands ∙ ap (λ (t : List ℕ). expression_text second.item ++ t) end.1)))
                ∙ sym (joined_text opened.item first.item second.item found.rest);
            shallow = omega (arith, deep, front.shallow, back.shallow);
            written = joined_writable inside opened.item first.item second.item front.written
                back.written;
          })

  -- and so does a `map` that is found, which stands in no other
  map_is : (inside : Bool) (text : List ℕ) (found : Front Expression)
      → option_and_then (inner_front (expression_front true below)) (map_front inside text) ≡ Some found
      → IsInFront inside (suc below) text found
  map_is true text found is = absurd (cc)
  map_is false text found is =
      option_and_then_some (inner_front (expression_front true below)) (after (codes "map(") text)
      found is
      (λ behind opens closed.
      option_and_then_some close_map (expression_front true below behind) found closed
      (λ property one closes. whole behind opens property one closes))
    where
      whole : (behind : List ℕ) → after (codes "map(") text ≡ Some behind
          → (property : Front Expression) → expression_front true below behind ≡ Some property
          → close_map property ≡ Some found → IsInFront false (suc below) text found
      whole behind opens property one closes =
          let front = parts_are true behind property one in
          let end = close_is (Map property.item) property.rest found closes in
          let same : followed (Map property.item) found.rest ≡ found =
          ap (λ (item : Expression). followed item found.rest) end.0 in
          subst (IsInFront false (suc below) text) same (record {
            stands = after_is (codes "map(") text behind opens
                ∙ ap (λ (t : List ℕ). codes "map(" ++ t)
                (front.stands ∙ ap (λ (t : List ℕ). expression_text property.item ++ t) end.1)
                ∙ sym (map_onto (expression_text property.item) found.rest);
            shallow = omega (arith, front.shallow);
            written = front.written;
          })

  -- whichever of them it is
  opened_is : (inside : Bool) (text : List ℕ) (found : Front Expression)
      → option_map_or (pair_front (expression_front inside below)) (join_front text)
      (option_and_then (inner_front (expression_front true below)) (map_front inside text))
      ≡ Some found
      → IsInFront inside (suc below) text found
  opened_is inside text found is = by (join_front text) refl is
    where
      by : (join : Option (Front Join)) → join_front text ≡ join
          → option_map_or (pair_front (expression_front inside below)) join
          (option_and_then (inner_front (expression_front true below)) (map_front inside text))
          ≡ Some found
          → IsInFront inside (suc below) text found
      by None opens there = map_is inside text found there
      by (Some opened) opens there = pair_is inside text opened opens found there

-- an expression that is found stands in front
pub front_is : (inside : Bool) (below : ℕ) (text : List ℕ) (found : Front Expression)
    → expression_front inside below text ≡ Some found → IsInFront inside below text found
front_is inside zero text found is = leaf_is inside zero text found is
front_is inside (suc below) text found is =
    elim (either_found (leaf_front inside text)
    (option_map_or (pair_front (expression_front inside below)) (join_front text)
    (option_and_then (inner_front (expression_front true below)) (map_front inside text))) found is) [
      | inl here ↦ leaf_is inside (suc below) text found here
      | inr there ↦ opened_is below (λ inside. front_is inside below) inside text found there
    ]
