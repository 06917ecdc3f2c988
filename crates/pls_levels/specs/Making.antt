-- Labels with levels that a marker makes: what is right in front of their levels, and what they are
-- made of.
use Rattle.std.specs.Prelude.{◌≡◌, ℕ, List, [], ◌∷◌, length, get_or, slice_get, Contains, Some, None}
use Rattle.std.specs.Option.{option_map_or}
use Rattle.pls_configuration.specs.declared.row.Port.{Port}
use Rattle.pls_configuration.specs.declared.row.NodeRow.{NodeRow}
use Rattle.pls_graph.specs.declared.size.Size.{Size}
use Rattle.pls_facts.specs.Pointer.{IsChainOf, pointed_port}
use Rattle.pls_levels.specs.declared.label.LevelLabel.{LevelLabel}

-- what stands in front of the levels is right for the node of a row: the root is the node without
-- pointer, the parent is the node that the node points at, and at the root the node itself, and the
-- depth is the length of the chain of pointers
pub record IsRightHead {S : Type 0} (rows : List NodeRow) (row : NodeRow) (label : LevelLabel S)
    : Type 0 where
  pub own : label.own ≡ row.id
  pub root : (root : NodeRow) → Contains rows root → root.state.up ≡ None
      → (label.root ≡ root.id) × IsChainOf rows row.id root.id label.depth
  pub parent : (port : Port) → pointed_port row ≡ Some port → label.parent ≡ port.nbr
  pub own_parent : pointed_port row ≡ None → label.parent ≡ row.id

-- no numbers in front of so many levels of a marked label are greater: the greatest identity for
-- the root, the node and the parent, the number of nodes, and how many levels there are
abbrev pub head_limits : ℕ → Size → List ℕ
head_limits count size =
    size.max_id ∷ size.max_id ∷ size.max_id ∷ size.nodes ∷ count ∷ []

-- the node that the node of a row points at, and else the node itself
abbrev pub parent_or_own : NodeRow → ℕ
parent_or_own row = option_map_or (λ port. port.nbr) (pointed_port row) row.id

-- the label of the node of a row under this root, at this depth, with these levels
abbrev pub label_from : {S : Type 0} → ℕ → NodeRow → ℕ → S → LevelLabel S
label_from root row depth levels = record {
  root = root;
  own = row.id;
  parent = parent_or_own row;
  depth = depth;
  levels = levels;
}

-- the label is made from the node at a place and from the depth and the levels there
abbrev pub IsMadeAt : {S : Type 0} → List NodeRow → ℕ → List ℕ → List S → ℕ → LevelLabel S
    → Type 0
IsMadeAt {S} rows root depths lists place label =
    (row : NodeRow) (levels : S) → slice_get rows place ≡ Some row
    → slice_get lists place ≡ Some levels
    → label ≡ label_from root row (get_or depths place 0) levels

-- the labels of so many of the first nodes, each made from the depth and the levels at its place
pub record AreMade {S : Type 0} (rows : List NodeRow) (root : ℕ) (depths : List ℕ)
    (lists : List S) (count : ℕ) (labels : List (LevelLabel S)) : Type 0 where
  pub each : length labels ≡ count
  pub label : (place : ℕ) (label : LevelLabel S) → slice_get labels place ≡ Some label
      → IsMadeAt rows root depths lists place label
