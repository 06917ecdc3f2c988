-- Labels that are made of the root, the depths and the levels are right.
use Rattle.std.proofs.Common.{◌≡◌, ℕ, List, length, subst}
use Rattle.pls_configuration.specs.declared.row.NodeRow.{NodeRow}
use Rattle.pls_configuration.specs.Configuration.{IsNetwork}
use Rattle.pls_search.specs.Depths.{AreDepths}
use Rattle.pls_scheme.specs.Marked.{AreRight}
use Rattle.pls_facts.specs.OnlyNode.{IsOnly, points_at_none}
use Rattle.pls_centroid.specs.Levels.{AreCentroidLevels, AreCentroidLists}
use Rattle.pls_centroid.specs.declared.level.CentroidLevel.{CentroidLevel}
use Rattle.pls_levels.specs.Making.{AreMade, IsRightHead}
use Rattle.pls_levels.proofs.Made.{made_right as all_made_right}
use Rattle.pls_pathmax.specs.Labels.{PathMaxLabel}
use Rattle.pls_pathmax.specs.PathMax.{PathMaxSays}

made_right : (rows : List NodeRow) (root : ℕ) (depths : List ℕ)
    (lists : List (List CentroidLevel)) → IsNetwork rows → IsOnly points_at_none rows root
    → AreDepths rows depths → AreCentroidLists rows lists → (labels : List PathMaxLabel)
    → AreMade rows root depths lists (length rows) labels → AreRight (PathMaxSays rows) rows labels
made_right rows root depths lists net only deep are labels made = record {
  each = made.each;
  label = λ place row label at has. let is = all.label place row label at has in
      record { head = is.0; levels = is.1 };
}
  where
    all : AreRight (λ row label. IsRightHead rows row label
        × AreCentroidLevels rows row.id label.levels) rows labels
    all = all_made_right rows root depths lists net only deep are.each
        (λ row levels. AreCentroidLevels rows row.id levels)
        (λ place row levels. are.levels place row levels) labels made

-- so they are, of depths that are the same
pub made_of_same : (rows : List NodeRow) (root : ℕ) (depths given : List ℕ)
    (lists : List (List CentroidLevel)) → IsNetwork rows → IsOnly points_at_none rows root
    → AreDepths rows depths → AreCentroidLists rows lists → given ≡ depths
    → (labels : List PathMaxLabel) → AreMade rows root given lists (length rows) labels
    → AreRight (PathMaxSays rows) rows labels
made_of_same rows root depths given lists net only deep are given_is labels made =
    made_right rows root depths lists net only deep are labels
    (subst (λ (given : List ℕ). AreMade rows root given lists (length rows) labels) given_is made)
