-- The levels of a label, written one after another.
use Rattle.std.proofs.Common.{◌≡◌, ◌∙◌, ℕ, ◌+◌, ◌<◌, ◌++◌, Bool, List, [], length, get_or, slice_get, take, Some, sym, ap, subst}
use Rattle.std.specs.List.{flat_map}
use Rattle.std.proofs.lemmas.Option.{get_or_from_slice_get, slice_get_within}
use Rattle.pls_numbers.specs.Numbers.{AreCoded, codes_of}
use Rattle.pls_numbers.specs.laws.CodeLaws.{coded_item, coded_rest, codes_of-item}

module _ {X : Type 0} (numbers : X → List ℕ) (items : List X) (i : ℕ) (level : X)
    (at : slice_get items i ≡ Some level) where
  within : i < length items
  within = slice_get_within items i level at

  here : get_or items i level ≡ level
  here = get_or_from_slice_get items i level level at

  -- the level at a place can be written, where the numbers of all can be
  pub level_coded : (front : List ℕ) → AreCoded [] (front ++ flat_map numbers items)
      → AreCoded [] (numbers level)
  level_coded front coded =
      subst (λ (level : X). AreCoded [] (numbers level)) here
      (coded_item numbers items i level within
      (coded_rest front (flat_map numbers items) coded))

  -- the codes of one level more
  pub level_written : (code : ℕ → List Bool) (old before after : List Bool)
      → before ≡ old ++ codes_of code [] (flat_map numbers (take i items))
      → after ≡ before ++ codes_of code [] (numbers level)
      → after ≡ old ++ codes_of code [] (flat_map numbers (take (i + 1) items))
  level_written code old before after so_far more =
      more
      ∙ ap (λ (bits : List Bool). bits ++ codes_of code [] (numbers level)) so_far
      ∙ ap (λ (level : X). (old ++ codes_of code [] (flat_map numbers (take i items)))
      ++ codes_of code [] (numbers level)) (sym here)
      ∙ codes_of-item numbers code old items i level within
