-- What the rules of `mst` say, level by level, of labels that a function of the identity gives.
use Rattle.std.proofs.Common.{◌≡◌, ◌≢◌, ℕ, ◌<◌, ◌⊎◌, length, get_or, slice_get, Contains, Some}
use Rattle.pls_configuration.specs.declared.row.Port.{Port}
use Rattle.pls_configuration.specs.declared.row.NodeRow.{NodeRow}
use Rattle.pls_configuration.specs.Walk.{Edge}
use Rattle.pls_scheme.specs.Reading.{port_where}
use Rattle.pls_facts.specs.EdgeOrder.{edge_key}
use Rattle.pls_facts.specs.Pointer.{pointed_port}
use Rattle.pls_facts.specs.Precedes.{IsAtMost}
use Rattle.pls_boruvka.specs.Boruvka.{chosen_edge}
use Rattle.pls_boruvka.specs.declared.level.Level.{Level}
use Rattle.pls_levels.specs.laws.Placed.{IsPlaced}
use Rattle.pls_mst.specs.Labels.{MstLabel}
use Rattle.pls_mst.specs.Rules.{edge_to, outside_tree}

-- a level where there is none
abbrev pub no_level : Level
no_level = record { fragment = 0; weight = 0; a = 0; b = 0 }

module _ (say : ℕ → MstLabel) where
  -- what a node says of a level
  abbrev pub level_at : ℕ → ℕ → Level
  level_at level id = get_or (say id).levels level no_level

  -- its fragment there
  abbrev pub fragment_at : ℕ → ℕ → ℕ
  fragment_at level id = (level_at level id).fragment

  -- the edge that its fragment chose there
  abbrev pub chosen_at : ℕ → ℕ → Edge
  chosen_at level id = chosen_edge (level_at level id)

  -- the edge at a port, as the two nodes name themselves
  abbrev pub told_edge : NodeRow → Port → Edge
  told_edge row port = edge_to (say row.id) (port_where say port)

  -- whether it is outside the tree, as the two nodes tell
  abbrev pub told_outside : NodeRow → ℕ → Port → ℕ
  told_outside row number port =
      outside_tree row.state.up (say row.id) number (port_where say port)

-- what the rules of a node say
pub record KeepsRules (say : ℕ → MstLabel) (row : NodeRow) : Type 0 where
  -- its label places it in the tree
  pub placed : IsPlaced say row
  -- its neighbours say the same root and as many levels
  pub alike : (port : Port) → Contains row.ports port
      → ((say port.nbr).root ≡ (say row.id).root)
      × (length (say port.nbr).levels ≡ length (say row.id).levels)
  -- on each level its fragment has its name, or is that of the node that it points at
  pub named : (level : ℕ) → level < length (say row.id).levels
      → (fragment_at say level row.id ≡ (say row.id).own)
      ⊎ ((port : Port) × (pointed_port row ≡ Some port)
      × (fragment_at say level row.id ≡ fragment_at say level port.nbr))
  -- neighbours of one fragment say that it chose one edge
  pub agrees : (level : ℕ) (port : Port) → level < length (say row.id).levels
      → Contains row.ports port
      → fragment_at say level row.id ≡ fragment_at say level port.nbr
      → chosen_at say level row.id ≡ chosen_at say level port.nbr
  -- an edge to another fragment does not come before the chosen edge
  pub least : (level number : ℕ) (port : Port) → level < length (say row.id).levels
      → slice_get row.ports number ≡ Some port
      → fragment_at say level row.id ≢ fragment_at say level port.nbr
      → IsAtMost (edge_key (chosen_at say level row.id) 0)
      (edge_key (told_edge say row port) (told_outside say row number port))
  -- the edge that it points along leads to another fragment on some level, and is chosen there
  pub chosen : (port : Port) → pointed_port row ≡ Some port
      → (level : ℕ) × (level < length (say row.id).levels)
      × (fragment_at say level row.id ≢ fragment_at say level port.nbr)
      × ((chosen_at say level row.id ≡ told_edge say row port)
      ⊎ (chosen_at say level port.nbr ≡ told_edge say row port))
