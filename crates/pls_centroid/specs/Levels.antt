-- The centroid levels of a tree of pointers: on the first level all nodes are one piece, and the
-- parts that a piece falls into without its centroid are the pieces of the next level.
use Rattle.std.specs.Prelude.{◌≡◌, ◌≢◌, ℕ, max, ◌⊎◌, List, [], ◌∷◌, length, slice_get, Some}
use Rattle.pls_configuration.specs.declared.row.NodeRow.{NodeRow}
use Rattle.pls_configuration.specs.Configuration.{ids_of}
use Rattle.pls_configuration.specs.Walk.{Edge}
use Rattle.pls_facts.specs.Path.{IsPath}
use Rattle.pls_facts.specs.SpanningTree.{pointed_edges}
use Rattle.pls_facts.specs.Weight.{edge_weight}
use Rattle.pls_centroid.specs.Centroid.{centroid_of, next_edges}
use Rattle.pls_centroid.specs.declared.level.CentroidLevel.{CentroidLevel}

-- the greatest weight of the edges from u along the listed nodes, and 0 where there are none
abbrev pub greatest_along : List NodeRow → ℕ → List ℕ → ℕ
greatest_along rows u [] = 0
greatest_along rows u (next ∷ nodes) = max (edge_weight rows u next)
    (greatest_along rows next nodes)

-- what a node has on a level whose pieces these edges hold together: the centroid of its piece, and
-- how many edges its path in the tree to the centroid has, and the greatest weight of these
pub record IsCentroidLevelOf (rows : List NodeRow) (edges : List Edge) (u : ℕ)
    (level : CentroidLevel) : Type 0 where
  pub centroid : centroid_of edges (ids_of rows) u ≡ Some level.centroid
  pub path : List ℕ
  pub leads : IsPath (pointed_edges rows) u path level.centroid
  pub hops : level.hops ≡ length path
  pub greatest : level.greatest ≡ greatest_along rows u path

-- the levels of a node, where these edges hold the pieces of the first of them together; the last
-- is that on which the node is the centroid
abbrev pub AreLevelsFrom : List NodeRow → List Edge → ℕ → List CentroidLevel → Type 0
AreLevelsFrom rows edges u [] = ⊥
AreLevelsFrom rows edges u (level ∷ levels) = IsCentroidLevelOf rows edges u level
    × (((level.centroid ≡ u) × (levels ≡ []))
    ⊎ ((level.centroid ≢ u) × AreLevelsFrom rows (next_edges (ids_of rows) edges) u levels))

-- the centroid levels of a node: at first the edges that nodes point along hold all nodes together
abbrev pub AreCentroidLevels : List NodeRow → ℕ → List CentroidLevel → Type 0
AreCentroidLevels rows u levels = AreLevelsFrom rows (pointed_edges rows) u levels

-- the levels of each node, in the order of the rows
pub record AreCentroidLists (rows : List NodeRow) (lists : List (List CentroidLevel)) : Type 0 where
  pub each : length lists ≡ length rows
  pub levels : (place : ℕ) (row : NodeRow) (list : List CentroidLevel)
      → slice_get rows place ≡ Some row → slice_get lists place ≡ Some list
      → AreCentroidLevels rows row.id list
