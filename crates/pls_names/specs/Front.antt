-- The name of a scheme at the front of a text.
use Rattle.std.specs.Prelude.{ℕ, List, [], ◌∷◌, Option, None}
use Rattle.std.specs.Option.{option_or}
use Rattle.pls_fronts.specs.Front.{Front, word_front}
use Rattle.pls_names.specs.declared.scheme_name.SchemeName.{SchemeName}
use Rattle.pls_names.specs.Named.{all_names, name_of}

-- the first of some names that is in front
abbrev pub first_name : List SchemeName → List ℕ → Option (Front SchemeName)
first_name [] text = None
first_name (name ∷ names) text =
    option_or (word_front name (name_of name) text) (first_name names text)

-- the name of a scheme at the front of a text
abbrev pub name_front : List ℕ → Option (Front SchemeName)
name_front text = first_name all_names text
