-- A label with a map in another number code: its first number, and behind it the map.
use Rattle.std.proofs.Common.{◌≡◌, ◌∙◌, ℕ, ◌≤◌, ◌++◌, Bool, List, Option, Some, None, option_map, refl, sym, ap}
use Rattle.std.proofs.lemmas.Option.{same_Some}
use Rattle.pls_bits.specs.declared.num_code.TheConstants.{MAX_CODED}
use Rattle.pls_bits.specs.NumberCode.{TakesCodes, TakesOnly}
use Rattle.pls_numbers.specs.Shape.{recoded, said_by, spelling}
use Rattle.pls_numbers.specs.laws.LeftLaws.{same_parts}
use Rattle.pls_universal.specs.declared.map.MapRow.{MapRow}
use Rattle.pls_universal.specs.Reading.{map_label_with, map_shape, rows_shape}
use Rattle.pls_universal.specs.laws.LabelLaws.{label-none, label-parts}

module _ (code : ℕ → List Bool) (takes : List Bool → Option (ℕ × List Bool))
    (taken : TakesCodes code takes) (only : TakesOnly code takes) (new_code : ℕ → List Bool) where
  -- the number in front is written anew, and so is the map behind it
  pub recoded-parts : (bits : List Bool) (own : ℕ) (rest : List Bool)
      → takes bits ≡ Some (own, rest)
      → recoded map_shape takes new_code bits
      ≡ option_map (λ map. new_code own ++ map) (recoded rows_shape takes new_code rest)
  recoded-parts bits own rest first =
      ap (option_map (spelling map_shape new_code))
      (label-parts code takes taken only bits own rest first)
      ∙ by (said_by rows_shape takes rest)
    where
      by : (found : Option (List MapRow))
          → option_map (spelling map_shape new_code) (option_map (map_label_with own) found)
          ≡ option_map (λ map. new_code own ++ map)
          (option_map (spelling rows_shape new_code) found)
      by None = refl
      by (Some rows) = refl

  -- where no number is in front, there is no label
  pub recoded-none : (bits : List Bool) → takes bits ≡ None
      → recoded map_shape takes new_code bits ≡ None
  recoded-none bits none =
      ap (option_map (spelling map_shape new_code)) (label-none code takes taken only bits none)

  -- a label with the map of another, whose bits in the new code are known
  pub recoded_beside : (new_takes : List Bool → Option (ℕ × List Bool))
      → TakesCodes new_code new_takes
      → (old new bits map new_map : List Bool) (first again own : ℕ)
      → recoded map_shape takes new_code old ≡ Some new → takes old ≡ Some (first, map)
      → new_takes new ≡ Some (again, new_map) → takes bits ≡ Some (own, map)
      → recoded map_shape takes new_code bits ≡ Some (new_code own ++ new_map)
  recoded_beside new_takes new_taken old new bits map new_map first again own was old_is new_is is =
      recoded-parts bits own map is ∙ ap (option_map (λ map. new_code own ++ map))
      (by (recoded rows_shape takes new_code map) (sym (recoded-parts old first map old_is) ∙ was))
    where
      small : first ≤ MAX_CODED
      small = (only old first map old_is).0

      by : (found : Option (List Bool))
          → option_map (λ map. new_code first ++ map) found ≡ Some new → found ≡ Some new_map
      by None none = absurd (cc)
      by (Some made) some =
          let whole : new_code first ++ made ≡ new = same_Some (new_code first ++ made) new some in
          let there : Some (first, made) ≡ Some (again, new_map) =
          sym (new_taken first made small) ∙ ap new_takes whole ∙ new_is in
          ap (λ (map : List Bool). Some map) (same_parts (first, made) (again, new_map) there).1
