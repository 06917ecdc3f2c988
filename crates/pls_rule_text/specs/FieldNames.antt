-- The names of fields, in their order.
use Rattle.std.specs.Prelude.{◌≢◌, ℕ, AllPairs, List, [], map, get_or}
use Rattle.pls_rules.specs.declared.field.Field.{Field}

-- the names of fields, in their order
abbrev pub names_of : List Field → List (List ℕ)
names_of fields = map (λ field. field.name) fields

-- the name of the field with this number, and an empty one where there is no such field
abbrev pub name_at : List (List ℕ) → ℕ → List ℕ
name_at names number = get_or names number []

-- no two names are one
abbrev pub NamesDiffer : List (List ℕ) → Type 0
NamesDiffer names = AllPairs (λ one other. one ≢ other) names
