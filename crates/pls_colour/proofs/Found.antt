-- What is found of the levels of a connected network.
use Rattle.std.proofs.Common.{◌≡◌, ◌∙◌, ℕ, List, map, Option, Some, None, unwrap_or, slice_get, sym, refl}
use Rattle.pls_configuration.specs.declared.row.NodeRow.{NodeRow}
use Rattle.pls_configuration.specs.Walk.{IsConnected}
use Rattle.pls_graph.specs.Levels.{AreLevels}
use Rattle.pls_scheme.specs.Marked.{AreRight}
use Rattle.pls_scheme.proofs.Markings.{right_map}
use Rattle.pls_facts.proofs.Levels.{known_level}
use Rattle.pls_colour.specs.Levelled.{saying_level}

-- the labels for levels that are found in a connected network are right
pub levels_right : {L : Type 0} (level_label : ℕ → L) (rows : List NodeRow) → IsConnected rows
    → (found : List (Option ℕ)) → AreLevels rows 0 found
    → AreRight (saying_level level_label rows) rows
    (map (λ level. level_label (unwrap_or level 0)) found)
levels_right {L} level_label rows connected found levels =
    right_map (saying_level level_label rows) rows (λ level. level_label (unwrap_or level 0)) found
    levels.each right
  where
    right : (place : ℕ) (row : NodeRow) (entry : Option ℕ) → slice_get rows place ≡ Some row
        → slice_get found place ≡ Some entry
        → saying_level level_label rows row (level_label (unwrap_or entry 0))
    right place row None at has first at_first =
        let known = known_level rows 0 found connected levels first row place at_first at in
        let none : Some (None) ≡ Some (Some known.0) = sym has ∙ known.1 in absurd (cc)
    right place row (Some level) at has first at_first =
        (level, levels.level first row place (Some level) at_first at has, refl)
