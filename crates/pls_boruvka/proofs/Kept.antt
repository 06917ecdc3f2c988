-- The levels of a node among those of all nodes.
use Rattle.std.proofs.Common.{◌≡◌, ◌∙◌, ℕ, ◌<◌, List, Some, length, get_or, slice_get, option_map, refl, ap, arith}
use Rattle.std.proofs.lemmas.List.{length-map}
use Rattle.std.proofs.lemmas.Option.{slice_get_read, slice_get-map}
use Rattle.pls_boruvka.specs.declared.joining.ChosenEnd.{ChosenEnd}
use Rattle.pls_boruvka.specs.declared.level.Level.{Level}
use Rattle.pls_boruvka.specs.inner.Chosen.{no_chosen, said_at}

-- the level of a number is what the round of that number says
pub said_at-round : (rounds : List (List ChosenEnd)) (place number : ℕ) (all : List ChosenEnd)
    → number < length (said_at rounds place) → all ≡ get_or rounds number all
    → slice_get (said_at rounds place) number ≡ Some (get_or all place no_chosen).level
said_at-round rounds place number all within is =
    slice_get-map say rounds number ∙ ap (option_map say)
    (slice_get_read rounds (length rounds) number all refl here is)
  where
    say : List ChosenEnd → Level
    say all = (get_or all place no_chosen).level

    here : number < length rounds
    here = omega (arith, within, length-map rounds say)
