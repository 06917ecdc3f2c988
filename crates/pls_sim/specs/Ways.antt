-- The ports of all nodes, numbered through in the order of the nodes, and which leads back from
-- each, to which node.
use Rattle.std.specs.Prelude.{◌≡◌, ℕ, ◌+◌, List, take, length, slice_get, Some}
use Rattle.pls_configuration.specs.declared.row.Port.{Port}
use Rattle.pls_configuration.specs.declared.row.NodeRow.{NodeRow}
use Rattle.pls_configuration.specs.Configuration.{IsNetwork, ids_of, ports_in}

-- the number of a port of the node at a place
abbrev pub slot : List NodeRow → ℕ → ℕ → ℕ
slot rows place port = ports_in (take place rows) + port

-- the port of this number is one of this node, and leads to this neighbour
pub record IsSlot (rows : List NodeRow) (number node neighbour : ℕ) : Type 0 where
  pub place : ℕ
  pub at : ℕ
  pub row : NodeRow
  pub port : Port
  pub stands : slice_get rows place ≡ Some row
  pub has : slice_get row.ports at ≡ Some port
  pub is : number ≡ slot rows place at
  pub owner : row.id ≡ node
  pub leads : port.nbr ≡ neighbour

-- the node stands at this place
pub record IsPlaceOf (rows : List NodeRow) (node place : ℕ) : Type 0 where
  pub row : NodeRow
  pub stands : slice_get rows place ≡ Some row
  pub is : row.id ≡ node

-- the identities of all nodes; for each node, and behind the last one, how many ports the nodes
-- before it have; for each port the number of the one that leads back, and the place of the node
-- that has that one
pub record Numbers : Type 0 where
  pub ids : List ℕ
  pub firsts : List ℕ
  pub back : List ℕ
  pub ends : List ℕ

-- for each node, and behind the last one, how many ports the nodes before it have
pub record AreFirsts (rows : List NodeRow) (firsts : List ℕ) : Type 0 where
  pub count : length firsts ≡ length rows + 1
  pub each : (place first : ℕ) → slice_get firsts place ≡ Some first
      → first ≡ ports_in (take place rows)

-- for each port that the list has, the number of the one that leads back
abbrev pub LeadBack : List NodeRow → List ℕ → Type 0
LeadBack rows back =
    (number node neighbour other : ℕ) → slice_get back number ≡ Some other
    → IsSlot rows number node neighbour → IsSlot rows other neighbour node

-- for each port that the list has, the place of the node that it leads to
abbrev pub AreEnds : List NodeRow → List ℕ → Type 0
AreEnds rows ends =
    (number node neighbour place : ℕ) → slice_get ends number ≡ Some place
    → IsSlot rows number node neighbour → IsPlaceOf rows neighbour place

-- the rows are a network, and these the numbers of its ports
pub record ArePortNumbers (rows : List NodeRow) (ways : Numbers) : Type 0 where
  pub network : IsNetwork rows
  pub are_ids : ways.ids ≡ ids_of rows
  pub are_firsts : AreFirsts rows ways.firsts
  pub long : length ways.back ≡ ports_in rows
  pub lead_back : LeadBack rows ways.back
  pub as_many : length ways.ends ≡ ports_in rows
  pub are_ends : AreEnds rows ways.ends
