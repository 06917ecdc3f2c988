-- A node of a table, once it is read, and what holds where one of its ports stands.
use Rattle.std.proofs.Common.{◌≡◌, ◌∙◌, ℕ, ◌+◌, ◌-◌, ◌<◌, ◌≤◌, List, length, set, remove, get_or, slice_get, option_map, Some, refl, sym, ap, subst, arith}
use Rattle.std.proofs.lemmas.Option.{slice_get-map}
use Rattle.pls_configuration.specs.declared.row.Port.{Port}
use Rattle.pls_configuration.specs.declared.row.State.{State}
use Rattle.pls_configuration.specs.declared.row.NodeRow.{NodeRow}
use Rattle.pls_graph.specs.declared.table.Node.{Node}
use Rattle.pls_graph.specs.declared.table.Table.TheInside.{Inside}
use Rattle.pls_graph.specs.inner.Placed.{Placed}
use Rattle.pls_graph.specs.inner.Ranges.{part, row_at, rows_at, places_at, AreRanges}
use Rattle.pls_graph.proofs.Parts.{length-part}
use Rattle.pls_graph.proofs.PortAdded.{node_read, row_is, places_are, range_within}
use Rattle.pls_graph.proofs.Ranged.{rows_changed, places_changed}
use Rattle.pls_graph_edits.specs.inner.Dropping.{dropping}
use Rattle.pls_graph_edits.specs.inner.ClosedUp.{IsClosedUp}
use Rattle.pls_graph_edits.proofs.Shaped.{range_kept, removed_part, removed_beside}

-- what the fields show
abbrev pub shown : Inside → Placed
shown inside = record {
  rows = rows_at inside.ports.items inside.nodes.items;
  places = places_at inside.places.items inside.nodes.items;
}

-- what holds of them
abbrev pub IsTable : Inside → Type 0
IsTable inside = AreRanges inside.nodes.items (length inside.ports.items)
    × (length inside.places.items ≡ length inside.ports.items)

-- the node at a place, and where its ports stand
pub record NodeSlot (inside : Inside) (now : Placed) (i : ℕ) (node : Node) : Type 0 where
  pub table : IsTable inside
  pub rows : rows_at inside.ports.items inside.nodes.items ≡ now.rows
  pub beside : places_at inside.places.items inside.nodes.items ≡ now.places
  pub at : slice_get inside.nodes.items i ≡ Some node
  pub has : slice_get now.rows i ≡ Some (row_at inside.ports.items node)
  pub has_places : slice_get now.places i ≡ Some (part node.start node.count inside.places.items)
  pub many : length (part node.start node.count inside.ports.items) ≡ node.count
  pub within : node.start + node.count ≤ length inside.ports.items

-- no port
pub nowhere : Port
nowhere = record { nbr = 0; weight = 0 }

pub node_slot : (inside : Inside) (now : Placed) (i : ℕ) (node : Node) → shown inside ≡ now
    → IsTable inside → i < length now.rows → node ≡ get_or inside.nodes.items i node
    → NodeSlot inside now i node
node_slot inside now i node view table inside_rows read =
    let nodes = inside.nodes.items in
    let ports = inside.ports.items in
    let places = inside.places.items in
    let rows : rows_at ports nodes ≡ now.rows = ap (λ (t : Placed). t.rows) view in
    let beside : places_at places nodes ≡ now.places = ap (λ (t : Placed). t.places) view in
    let at : slice_get nodes i ≡ Some node = node_read nodes ports i node rows inside_rows read in
    let within = range_within nodes ports places table.0 table.1 i node at nowhere 0 in
    record {
      table = table;
      rows = rows;
      beside = beside;
      at = at;
      has = ap (λ (rows : List NodeRow). slice_get rows i) (sym rows)
          ∙ slice_get-map (row_at ports) nodes i ∙ ap (option_map (row_at ports)) at;
      has_places = ap (λ (all : List (List ℕ)). slice_get all i) (sym beside)
          ∙ slice_get-map (λ (node : Node). part node.start node.count places) nodes i
          ∙ ap (option_map (λ (node : Node). part node.start node.count places)) at;
      many = length-part node.start node.count ports within;
      within = within;
    }

-- the table after a port of the node went
pub record IsWithout (now : Placed) (i p : ℕ) (nodes : List Node) (ports : List Port)
    (places : List ℕ) : Type 0 where
  pub ranges : AreRanges nodes (length ports)
  pub both : length places ≡ length ports
  pub rows : (row : NodeRow) → slice_get now.rows i ≡ Some row
      → rows_at ports nodes ≡ set now.rows i (dropping p row)
  pub beside : (beside : List ℕ) → slice_get now.places i ≡ Some beside
      → places_at places nodes ≡ set now.places i (remove beside p)

module _ (inside : Inside) (now : Placed) (i p : ℕ) (node : Node) (slot : NodeSlot inside now i node)
    (counted : p < node.count) (after : List Port) (after_places : List ℕ)
    (ports_closed : IsClosedUp inside.ports.items (node.start + p) (node.start + node.count) after)
    (places_closed : IsClosedUp inside.places.items (node.start + p) (node.start + node.count)
    after_places) (state : State)
    (changed : (row : NodeRow) → row.state ≡ node.state → (dropping p row).state ≡ state) where
  abbrev nodes : List Node
  nodes = inside.nodes.items

  abbrev new : Node
  new = record node { state = state; count = node.count - 1 }

  pub without : IsWithout now i p (set nodes i new) after after_places
  without =
      let ports = inside.ports.items in
      let places = inside.places.items in
      let ranges = slot.table.0 in
      let both = slot.table.1 in record {
        ranges = subst (AreRanges (set nodes i new)) (sym ports_closed.long)
            (range_kept nodes ports places ranges both i node slot.at new refl refl (omega arith));
        both = places_closed.long ∙ both ∙ sym ports_closed.long;
        rows = λ row has.
            rows_changed ports after nodes i new
            (removed_beside nodes ports places ranges both i node slot.at p counted ports after
            ports_closed.long ports_closed.before ports_closed.behind)
            ∙ ap (λ (items : List Port). set (rows_at ports nodes) i
            (record { id = node.id; state = state; ports = items }))
            (removed_part nodes ports places ranges both i node slot.at p counted ports after refl
            ports_closed.long ports_closed.before ports_closed.moved)
            ∙ ap (λ (state : State). set (rows_at ports nodes) i (record {
              id = node.id;
              state = state;
              ports = remove (part node.start node.count ports) p;
            })) (sym (changed (row_at ports node) refl))
            ∙ ap (λ (row : NodeRow). set (rows_at ports nodes) i (dropping p row))
            (sym (row_is nodes ports places ranges both i node slot.at nowhere 0 row
            (ap (λ (rows : List NodeRow). slice_get rows i) slot.rows ∙ has)))
            ∙ ap (λ (rows : List NodeRow). set rows i (dropping p row)) slot.rows;
        beside = λ beside has.
            places_changed places after_places nodes i new
            (removed_beside nodes ports places ranges both i node slot.at p counted places after_places
            places_closed.long places_closed.before places_closed.behind)
            ∙ ap (set (places_at places nodes) i)
            (removed_part nodes ports places ranges both i node slot.at p counted places after_places
            both places_closed.long places_closed.before places_closed.moved)
            ∙ ap (λ (beside : List ℕ). set (places_at places nodes) i (remove beside p))
            (sym (places_are nodes ports places ranges both i node slot.at nowhere 0 beside
            (ap (λ (all : List (List ℕ)). slice_get all i) slot.beside ∙ has)))
            ∙ ap (λ (all : List (List ℕ)). set all i (remove beside p)) slot.beside;
      }
