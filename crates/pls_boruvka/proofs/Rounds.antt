-- The levels of each node, with one round more.
use Rattle.std.proofs.Common.{◌≡◌, ◌∙◌, ℕ, ◌<◌, List, [], ◌∷◌, ◌++◌, length, replicate, get_or, Some, sym, ap, arith, slice_get}
use Rattle.std.specs.List.{range_with_len}
use Rattle.std.proofs.lemmas.List.{map-append}
use Rattle.std.proofs.lemmas.List.FromFn.{get_or-map-range_with_len, length-map-range_with_len, length-range_with_len}
use Rattle.std.proofs.lemmas.Option.{get_or_from_slice_get, slice_get-get_or, slice_get_within}
use Rattle.std.proofs.lemmas.Simd.{splat_is_map}
use Rattle.pls_boruvka.specs.declared.joining.ChosenEnd.{ChosenEnd}
use Rattle.pls_boruvka.specs.declared.level.Level.{Level}
use Rattle.pls_boruvka.specs.inner.Chosen.{no_chosen, said_at, levels_said}

-- each list has what the level says behind what it had
pub record AddLevel (all : List ChosenEnd) (old new : List (List Level)) : Type 0 where
  pub each : length new ≡ length old
  pub added : (place : ℕ) (one : ChosenEnd) → slice_get all place ≡ Some one
      → get_or new place [] ≡ get_or old place [] ++ one.level ∷ []

-- before the first round there are no levels
pub said_by-none : (count : ℕ) → levels_said [] count ≡ replicate count []
said_by-none count =
    sym (splat_is_map (range_with_len 0 count) count [] (length-range_with_len 0 count))

-- the levels of the node at a place
said_there : (rounds : List (List ChosenEnd)) (count place : ℕ) → place < count
    → get_or (levels_said rounds count) place [] ≡ said_at rounds place
said_there rounds count place within =
    get_or-map-range_with_len (said_at rounds) 0 count place place [] within (omega arith)

-- they stand at that place
pub said_by-at : (rounds : List (List ChosenEnd)) (count place : ℕ) → place < count
    → slice_get (levels_said rounds count) place ≡ Some (said_at rounds place)
said_by-at rounds count place within =
    slice_get-get_or (levels_said rounds count) place []
    (omega (arith, within, length-map-range_with_len (said_at rounds) 0 count))
    ∙ ap Some (said_there rounds count place within)

-- a round adds a level to each
pub said_by-more : (rounds : List (List ChosenEnd)) (all : List ChosenEnd) (count : ℕ)
    → length all ≡ count → AddLevel all (levels_said rounds count) (levels_said (rounds ++ all ∷ []) count)
said_by-more rounds all count many = record {
  each = length-map-range_with_len (said_at (rounds ++ all ∷ [])) 0 count
      ∙ sym (length-map-range_with_len (said_at rounds) 0 count);
  added = λ place one at.
      let within : place < count = omega (arith, many, slice_get_within all place one at) in
      said_there (rounds ++ all ∷ []) count place within
      ∙ map-append (λ all. (get_or all place no_chosen).level) rounds (all ∷ [])
      ∙ ap (λ (one : ChosenEnd). said_at rounds place ++ one.level ∷ [])
      (get_or_from_slice_get all place one no_chosen at)
      ∙ ap (λ (list : List Level). list ++ one.level ∷ [])
      (sym (said_there rounds count place within));
}
