-- Labels that are made of the root, the depths and the levels are right.
use Rattle.std.proofs.Common.{◌≡◌, ◌∙◌, ℕ, List, map, length, slice_get, Some, option_map, sym, ap}
use Rattle.std.proofs.lemmas.List.{length-map}
use Rattle.std.proofs.lemmas.Option.{same_Some, slice_get-map}
use Rattle.pls_configuration.specs.declared.row.NodeRow.{NodeRow}
use Rattle.pls_configuration.specs.Configuration.{IsNetwork}
use Rattle.pls_search.specs.Depths.{AreDepths}
use Rattle.pls_scheme.specs.Marked.{AreRight}
use Rattle.pls_facts.specs.OnlyNode.{IsOnly, points_at_none}
use Rattle.pls_boruvka.specs.Boruvka.{AreLevelLists}
use Rattle.pls_boruvka.specs.declared.level.Level.{Level}
use Rattle.pls_levels.specs.Making.{AreMade, IsRightHead}
use Rattle.pls_levels.proofs.Made.{made_right as all_made_right}
use Rattle.pls_mst.specs.Labels.{MstLabel}
use Rattle.pls_mst.specs.Mst.{AreLevelsOf, MstSays}

pub made_right : (rows : List NodeRow) (root : ℕ) (depths : List ℕ) (lists : List (List Level))
    → IsNetwork rows → IsOnly points_at_none rows root → AreDepths rows depths
    → AreLevelLists rows lists → (labels : List MstLabel)
    → AreMade rows root depths lists (length rows) labels → AreRight (MstSays rows) rows labels
made_right rows root depths lists net only deep are labels made = record {
  each = made.each;
  label = λ place row label at has. let is = all.label place row label at has in
      record { head = is.0; levels = is.1 };
}
  where
    say : NodeRow → List Level
    say row = map (λ level. level row.id) are.levels

    right : (place : ℕ) (row : NodeRow) (levels : List Level) → slice_get rows place ≡ Some row
        → slice_get lists place ≡ Some levels → AreLevelsOf rows row.id levels
    right place row levels at there = record {
      depth = are.depth;
      levels = are.levels;
      deep = are.deep;
      are = are.are;
      said = same_Some levels (say row) (sym there
          ∙ ap (λ (lists : List (List Level)). slice_get lists place) are.said
          ∙ slice_get-map say rows place ∙ ap (option_map say) at);
    }

    all : AreRight (λ row label. IsRightHead rows row label × AreLevelsOf rows row.id label.levels)
        rows labels
    all = all_made_right rows root depths lists net only deep
        (ap length are.said ∙ length-map rows say) (λ row levels. AreLevelsOf rows row.id levels)
        right labels made
