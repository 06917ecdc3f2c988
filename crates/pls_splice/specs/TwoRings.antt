-- What becomes of a ring in which two edges are crossed.
use Rattle.std.specs.Prelude.{◌≡◌, ℕ, List, [], ◌∷◌, length}
use Rattle.pls_configuration.specs.declared.row.NodeRow.{NodeRow}
use Rattle.pls_facts.specs.Leader.{is_leader}
use Rattle.pls_facts.specs.OnlyNode.{passing}
use Rattle.pls_components.specs.Components.{AreComponents, IsComponent, items_at}
use Rattle.pls_splice.specs.Ring.{IsRing}

-- these two are the components of the network, each by itself is a ring, and they have so many
-- nodes
pub record AreTwoRings (rows : List NodeRow) (one other : ℕ) : Type 0 where
  pub first : List ℕ
  pub second : List ℕ
  pub components : AreComponents rows (first ∷ second ∷ [])
  pub first_ring : IsRing (items_at rows first)
  pub second_ring : IsRing (items_at rows second)
  pub first_size : length first ≡ one
  pub second_size : length second ≡ other

-- some component has no node that is marked as a leader
pub record IsLeaderlessIn (rows : List NodeRow) : Type 0 where
  pub places : List ℕ
  pub component : IsComponent rows places
  pub none : passing is_leader (items_at rows places) ≡ 0
