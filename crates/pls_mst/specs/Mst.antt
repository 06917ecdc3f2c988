-- The marker's labels of the scheme `mst`, and how long they are.
use Rattle.std.specs.Prelude.{◌≡◌, ℕ, ◌+◌, ◌*◌, Bool, List, [], ◌∷◌, map}
use Rattle.pls_bits.specs.Gamma.{floor_log}
use Rattle.pls_configuration.specs.declared.row.NodeRow.{NodeRow}
use Rattle.pls_graph.specs.declared.size.Size.{Size}
use Rattle.pls_scheme.specs.Length.{codes_length}
use Rattle.pls_boruvka.specs.Boruvka.{AreChainLengths, AreBoruvkaLevels}
use Rattle.pls_boruvka.specs.declared.level.Level.{Level}
use Rattle.pls_levels.specs.Making.{IsRightHead, head_limits}
use Rattle.pls_mst.specs.Labels.{MstLabel}

-- these are Borůvka's levels of the node with this identity, from the first on
pub record AreLevelsOf (rows : List NodeRow) (id : ℕ) (list : List Level) : Type 0 where
  pub depth : ℕ → ℕ
  pub levels : List (ℕ → Level)
  pub deep : AreChainLengths rows depth
  pub are : AreBoruvkaLevels rows depth levels
  pub said : list ≡ map (λ level. level id) levels

-- the label of a node: what stands in front of its levels is right, and they are Borůvka's
pub record MstSays (rows : List NodeRow) (row : NodeRow) (label : MstLabel) : Type 0 where
  pub head : IsRightHead rows row label
  pub levels : AreLevelsOf rows row.id label.levels

-- no numbers of a level of a marked label are greater: the greatest identity for the fragment and
-- the ends, and the greatest weight
abbrev pub level_limits : Size → List ℕ
level_limits size = size.max_id ∷ size.max_weight ∷ size.max_id ∷ size.max_id ∷ []

-- how many bits a marked label has at most: the codes of the limits in front of its levels, and
-- those of a level's limits as often as the logarithm of the number of nodes says
abbrev pub longest_mst : (ℕ → List Bool) → Size → ℕ
longest_mst code size = codes_length code [] (head_limits (floor_log size.nodes) size)
    + floor_log size.nodes * codes_length code [] (level_limits size)
