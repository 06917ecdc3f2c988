-- The components of a network: the nodes that walks join to one another (any textbook on graphs).
use Rattle.std.specs.Prelude.{◌≡◌, ◌↔◌, ℕ, ◌<◌, Bool, List, AllPairs, Contains, Some, filter_map, length, slice_get}
use Rattle.pls_configuration.specs.declared.row.NodeRow.{NodeRow}
use Rattle.pls_configuration.specs.Rising.{IsRising}
use Rattle.pls_configuration.specs.Walk.{AreJoined, edges_of}
use Rattle.pls_graph.specs.Connected.{smallest_id}

-- what stands at these places of a list; of the rows of a network it is the part of the network
-- that has these nodes alone
abbrev pub items_at : {X : Type 0} → List X → List ℕ → List X
items_at items places = filter_map (slice_get items) places

-- nodes stand at the places i and j of the rows, and a walk along edges leads from the one to the
-- other
pub record AreJoinedAt (rows : List NodeRow) (i j : ℕ) : Type 0 where
  pub one : NodeRow
  pub other : NodeRow
  pub there : slice_get rows i ≡ Some one
  pub here : slice_get rows j ≡ Some other
  pub walk : AreJoined (edges_of rows) one.id other.id

-- the places, rising, of one connected component: with some node of it exactly the nodes that a
-- walk joins to that one
pub record IsComponent (rows : List NodeRow) (places : List ℕ) : Type 0 where
  pub rising : IsRising places
  -- the place of that node
  pub node : ℕ
  pub own : Contains places node
  pub members : (place : ℕ) → Contains places place ↔ AreJoinedAt rows node place

-- the smallest identity of the nodes at some places
abbrev pub least_id : List NodeRow → List ℕ → ℕ
least_id rows places = smallest_id (items_at rows places)

-- these are the components: each is one, each node is in one, and their smallest identities rise
pub record AreComponents (rows : List NodeRow) (parts : List (List ℕ)) : Type 0 where
  pub each : (places : List ℕ) → Contains parts places → IsComponent rows places
  pub all : (place : ℕ) → place < length rows
      → (places : List ℕ) × Contains parts places × Contains places place
  pub order : AllPairs (λ places later. least_id rows places < least_id rows later) parts

-- each component has the property by itself, as the network of its rows
abbrev pub HasInEach : (List NodeRow → Type 0) → List NodeRow → Type 0
HasInEach holds rows = (places : List ℕ) → IsComponent rows places → holds (items_at rows places)

-- what is said of a network and its labels is true of each component by itself, with its labels
abbrev pub FitsInEach : (List NodeRow → List (List Bool) → Type 0) → List NodeRow
    → List (List Bool) → Type 0
FitsInEach fits rows labels = (places : List ℕ) → IsComponent rows places
    → fits (items_at rows places) (items_at labels places)
