-- The terms without parts, at the front of a text.
use Rattle.std.specs.Prelude.{ℕ, ◌&&◌, nat_le, List, length, take, drop, codes, Option, Some, None, option_map, option_and_then, if◌then◌else◌}
use Rattle.std.specs.Option.{option_map_or, option_or}
use Rattle.std.specs.Str.{bytes_eq}
use Rattle.pls_bits.specs.declared.num_code.TheConstants.{MAX_CODED}
use Rattle.pls_fronts.specs.Front.{Front, after, followed, word_front}
use Rattle.pls_fronts.specs.LetterFront.{letters_ahead}
use Rattle.pls_fronts.specs.NumberFront.{number_front}
use Rattle.pls_rules.specs.Formula.{Term, Number, Id, Mark, Num, Degree, Pointed, My, Up, UpWeight, Nb, NbWeight, NbUp}
use Rattle.pls_rule_text.specs.inner.Parts.{front_map}

-- these letters, where they are a name, and what follows them
abbrev pub name_from : List ℕ → List ℕ → Option (Front (List ℕ))
name_from letters rest =
    if nat_le 1 (length letters) && nat_le (length letters) 16
    then Some (followed letters rest) else None

-- the name that all letters in front are
abbrev pub name_front : List ℕ → Option (Front (List ℕ))
name_front text = name_from (take (letters_ahead text) text) (drop (letters_ahead text) text)

-- what is said by a name behind `up.`, and behind `nb.`
abbrev pub above_named : List ℕ → Term (List ℕ)
above_named name = if bytes_eq name (codes "weight") then UpWeight else Up name

abbrev pub beside_named : List ℕ → Term (List ℕ)
beside_named name =
    if bytes_eq name (codes "weight") then NbWeight
    else (if bytes_eq name (codes "up") then NbUp else Nb name)

-- a term that has a name
abbrev pub named_atom : List ℕ → Option (Front (Term (List ℕ)))
named_atom text =
    option_map_or (λ rest. option_map (front_map My) (name_front rest)) (after (codes "my.") text)
    (option_map_or (λ rest. option_map (front_map above_named) (name_front rest))
    (after (codes "up.") text)
    (option_and_then (λ rest. option_map (front_map beside_named) (name_front rest))
    (after (codes "nb.") text)))

-- a term without parts
unfoldable pub atom_front : List ℕ → Option (Front (Term (List ℕ)))
atom_front text =
    option_or (option_map (front_map Number) (number_front MAX_CODED text))
    (option_or (word_front Id (codes "id") text)
    (option_or (word_front Mark (codes "mark") text)
    (option_or (word_front Num (codes "num") text)
    (option_or (word_front Degree (codes "degree") text)
    (option_or (word_front Pointed (codes "pointed") text) (named_atom text))))))
