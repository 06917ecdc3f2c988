-- A node sees in its component by itself what it sees in the whole network.
use Rattle.std.proofs.Common.{◌≡◌, ◌∙◌, ℕ, ◌<◌, Bool, List, length, map, slice_get, All, Contains, Some, sym, ap, subst, arith}
use Rattle.std.proofs.lemmas.Option.{slice_get_within}
use Rattle.pls_configuration.specs.declared.row.Port.{Port}
use Rattle.pls_configuration.specs.declared.row.NodeRow.{NodeRow}
use Rattle.pls_configuration.specs.Configuration.{IsNetwork}
use Rattle.pls_graph.proofs.Finds.{item_at}
use Rattle.pls_graph.proofs.Members.{Contains-from_place}
use Rattle.pls_graph.proofs.Placed.{WayBack, place_of_row, row_place}
use Rattle.pls_graph.proofs.Ranged.{map_same}
use Rattle.pls_labels.proofs.Views.{label_at}
use Rattle.pls_labels.specs.Seen.{SeenPort, label_of, seen, seen_port, views}
use Rattle.pls_components.specs.Components.{IsComponent, items_at}
use Rattle.pls_components.proofs.Items.{from-items, items-at, items-map}
use Rattle.pls_components.proofs.Part.{part_at, part_network, part_way, places_within}

module _ (rows : List NodeRow) (net : IsNetwork rows) (places : List ℕ) (is : IsComponent rows places)
    (labels : List (List Bool)) (each : length labels ≡ length rows) where
  abbrev part : List NodeRow
  part = items_at rows places

  network : IsNetwork part
  network = part_network rows net places is

  within : All (λ (place : ℕ). place < length rows) places
  within = places_within rows net places is

  labels_within : All (λ (place : ℕ). place < length labels) places
  labels_within k d inside = let inside = within k d inside in omega arith

  -- the label of a node of the component is its label in the network
  label_same : (place : ℕ) (row : NodeRow) → slice_get rows place ≡ Some row
      → Contains places place
      → label_of part (items_at labels places) row.id ≡ label_of rows labels row.id
  label_same place row at in' =
      let (k, here, there) : (k : ℕ) × (slice_get places k ≡ Some place)
      × (slice_get part k ≡ Some row) = part_at rows net places is place row at in' in
      let (own, stands) : (own : List Bool) × (slice_get labels place ≡ Some own) =
      item_at labels place
      (let within = slice_get_within rows place row at in omega arith) in
      let one : label_of part (items_at labels places) row.id ≡ own =
      label_at part (items_at labels places) row.id k own
      (place_of_row part network k row there)
      (items-at labels places labels_within k place here ∙ stands) in
      let other : label_of rows labels row.id ≡ own =
      label_at rows labels row.id place own (place_of_row rows net place row at) stands in
      one ∙ sym other

  -- and so is that of the neighbour at each port
  port_same : (k p : ℕ) (row : NodeRow) (port : Port) → slice_get part k ≡ Some row
      → slice_get row.ports p ≡ Some port
      → label_of part (items_at labels places) port.nbr ≡ label_of rows labels port.nbr
  port_same k p row port at has =
      let way : WayBack part row port = part_way rows net places is k p row port at has in
      let (j, there, same) : (j : ℕ) × (slice_get part j ≡ Some way.other)
      × (port.nbr ≡ way.other.id) = row_place part network port.nbr way.other way.named in
      let (place, here, stands) : (place : ℕ) × (slice_get places j ≡ Some place)
      × (slice_get rows place ≡ Some way.other) =
      from-items rows places within j way.other there in
      subst (λ (id : ℕ). label_of part (items_at labels places) id ≡ label_of rows labels id)
      (sym same)
      (label_same place way.other stands (Contains-from_place places j place here))

  seen_same : (k : ℕ) (row : NodeRow) → slice_get part k ≡ Some row
      → seen (label_of part (items_at labels places)) row ≡ seen (label_of rows labels) row
  seen_same k row at =
      let (place, here, there) : (place : ℕ) × (slice_get places k ≡ Some place)
      × (slice_get rows place ≡ Some row) = from-items rows places within k row at in
      let own : label_of part (items_at labels places) row.id ≡ label_of rows labels row.id =
      label_same place row there (Contains-from_place places k place here) in
      let ports : map (seen_port (label_of part (items_at labels places))) row.ports
      ≡ map (seen_port (label_of rows labels)) row.ports =
      map_same (seen_port (label_of rows labels))
      (seen_port (label_of part (items_at labels places))) row.ports
      (λ p port has. ap (λ (label : List Bool). the_port port label) (port_same k p row port at has)) in
      cc
    where
      the_port : Port → List Bool → SeenPort
      the_port port label = record { weight = port.weight; label = label }

  -- what the nodes of the component see in it is what they see in the network
  pub part_views : views part (items_at labels places) ≡ items_at (views rows labels) places
  part_views =
      map_same (seen (label_of rows labels)) (seen (label_of part (items_at labels places))) part
      seen_same
      ∙ sym (items-map (seen (label_of rows labels)) rows places)
