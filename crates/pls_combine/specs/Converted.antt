-- Labels of expressions under another number code.
use Rattle.std.specs.Prelude.{ℕ, ◌+◌, Bool, true, false, List, [], ◌∷◌, map, Option, Some, None, is_some, if◌then◌else◌, option_map, option_and_then}
use Rattle.std.specs.Option.{unwrap_or}
use Rattle.pls_numbers.specs.Shape.{recoded}
use Rattle.pls_universal.specs.Reading.{map_shape}
use Rattle.pls_names.specs.Named.{converted_named}
use Rattle.pls_expressions.specs.Expression.{Expression, And, Of, Or}
use Rattle.pls_parts.specs.Joined.{joined_bits}
use Rattle.pls_parts.specs.Parts.{parts_of}

-- the label of a conjunction whose parts are these, where both are there
abbrev pub both_joined : (ℕ → List Bool) → Option (List Bool) → Option (List Bool)
    → Option (List Bool)
both_joined code None back = None
both_joined code (Some front) None = None
both_joined code (Some front) (Some back) = Some (joined_bits code front back)

-- what becomes of the two parts of a label of a conjunction, where it has them
abbrev pub by_parts : (ℕ → List Bool) → (List Bool → Option (List Bool))
    → (List Bool → Option (List Bool)) → Option (List Bool × List Bool) → Option (List Bool)
by_parts code first second parts = option_and_then (λ (parts : List Bool × List Bool).
    both_joined code (first parts.0) (second parts.1)) parts

-- what becomes of a label of a disjunction, by the part that its tag names
abbrev pub by_tag : (List Bool → Option (List Bool)) → (List Bool → Option (List Bool))
    → List Bool → Option (List Bool)
by_tag first second [] = None
by_tag first second (false ∷ rest) = option_map (λ bits. false ∷ bits) (first rest)
by_tag first second (true ∷ rest) = option_map (λ bits. true ∷ bits) (second rest)

-- the bits of the label that some bits are in one code, in another, where they are one. The length
-- code of a conjunction is that of the new length
abbrev pub converted : (List Bool → Option (ℕ × List Bool)) → (ℕ → List Bool) → Expression
    → List Bool → Option (List Bool)
converted takes code (Of name) bits = converted_named takes code name bits
converted takes code (And first second) bits =
    by_parts code (converted takes code first) (converted takes code second) (parts_of takes bits)
converted takes code (Or first second) bits =
    by_tag (converted takes code first) (converted takes code second) bits
converted takes code property bits = recoded map_shape takes code bits

-- all labels, each as what it becomes
abbrev pub all_converted : (List Bool → Option (List Bool)) → List (List Bool) → List (List Bool)
all_converted to labels = map (λ bits. unwrap_or (to bits) []) labels

-- the place of the first label that becomes nothing
abbrev pub first_unreadable : (List Bool → Option (List Bool)) → List (List Bool) → Option ℕ
first_unreadable to [] = None
first_unreadable to (bits ∷ labels) =
    if is_some (to bits) then option_map (λ place. place + 1) (first_unreadable to labels)
    else Some 0
