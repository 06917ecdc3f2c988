-- The marker's labels of the scheme `pathmax`, and how long they are.
use Rattle.std.specs.Prelude.{ℕ, ◌+◌, ◌*◌, Bool, List, [], ◌∷◌}
use Rattle.pls_bits.specs.Gamma.{floor_log}
use Rattle.pls_configuration.specs.declared.row.NodeRow.{NodeRow}
use Rattle.pls_graph.specs.declared.size.Size.{Size}
use Rattle.pls_scheme.specs.Length.{codes_length}
use Rattle.pls_centroid.specs.Levels.{AreCentroidLevels}
use Rattle.pls_levels.specs.Making.{IsRightHead, head_limits}
use Rattle.pls_pathmax.specs.Labels.{PathMaxLabel}

-- the label of a node: what stands in front of its levels is right, and they are the node's
-- centroid levels
pub record PathMaxSays (rows : List NodeRow) (row : NodeRow) (label : PathMaxLabel) : Type 0 where
  pub head : IsRightHead rows row label
  pub levels : AreCentroidLevels rows row.id label.levels

-- no numbers of a level of a marked label are greater: the greatest identity, the number of nodes,
-- and the greatest weight
abbrev pub centroid_level_limits : Size → List ℕ
centroid_level_limits size = size.max_id ∷ size.nodes ∷ size.max_weight ∷ []

-- how many bits a marked label has at most: the codes of the limits in front of its levels, and
-- those of a level's limits once more than the logarithm of the number of nodes says
abbrev pub longest_pathmax : (ℕ → List Bool) → Size → ℕ
longest_pathmax code size = codes_length code [] (head_limits (floor_log size.nodes + 1) size)
    + (floor_log size.nodes + 1) * codes_length code [] (centroid_level_limits size)
