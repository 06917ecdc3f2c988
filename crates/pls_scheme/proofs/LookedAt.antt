-- Labels that were looked at, at the places of a node and of its neighbours.
use Rattle.std.proofs.Common.{◌≡◌, ◌∙◌, ◌<◌, ℕ, ◌==◌, Bool, IfSome, List, length, map, get_or, position, slice_get, Option, Some, None, option_map, refl, sym, ap, subst, arith, [], ◌∷◌}
use Rattle.std.specs.Option.{option_and_then}
use Rattle.std.proofs.lemmas.List.{length-map}
use Rattle.std.proofs.lemmas.Option.{get_or_from_slice_get, same_Some, slice_get-get_or, slice_get-map}
use Rattle.pls_configuration.specs.declared.row.State.{State}
use Rattle.pls_configuration.specs.declared.row.Port.{Port}
use Rattle.pls_configuration.specs.declared.row.NodeRow.{NodeRow}
use Rattle.pls_configuration.specs.Configuration.{IsNetwork}
use Rattle.pls_graph.specs.Places.{beside}
use Rattle.pls_graph.proofs.Beside.{beside_many, beside_port}
use Rattle.pls_graph.proofs.Finds.{from_option_map, item_at}
use Rattle.pls_graph.proofs.Placed.{pointer_within}
use Rattle.pls_labels.specs.Seen.{Seen, SeenPort, label_of, seen_port, views}
use Rattle.pls_labels.proofs.Views.{label_at, port_at, view_by_parts}
use Rattle.pls_scheme.specs.inner.Looks.{AreLooked, kept_at_port, seen_above, seen_in}

-- the view of a node of this identity, state and label, with these ports
abbrev pub shown_from : List NodeRow → List (List Bool) → ℕ → State → List Bool → List Port → Seen
shown_from rows labels id state own ports = record {
  id = id;
  state = state;
  own = own;
  ports = map (seen_port (label_of rows labels)) ports;
}

-- it is the view at the place
pub is_shown : (rows : List NodeRow) (labels : List (List Bool)) (i id : ℕ) (state : State)
    (own : List Bool) (ports : List Port) (view : Seen)
    → option_map (λ row. row.id) (slice_get rows i) ≡ Some id
    → option_map (λ row. row.state) (slice_get rows i) ≡ Some state
    → option_map (λ row. row.ports) (slice_get rows i) ≡ Some ports
    → position (λ row. id == row.id) rows ≡ Some i → slice_get labels i ≡ Some own
    → slice_get (views rows labels) i ≡ Some view
    → shown_from rows labels id state own ports ≡ view
is_shown rows labels i id state own ports view id_is state_is ports_is placed own_at at =
    same_Some (shown_from rows labels id state own ports) view
    (sym (view_by_parts rows labels i id state ports own
    (map (seen_port (label_of rows labels)) ports) id_is state_is ports_is
    (label_at rows labels id i own placed own_at) refl) ∙ at)

module _ {L G E : Type 0} (read : List Bool → Option L) (glance : L → G) (kept : E → Option G)
    (labels : List (List Bool)) (looked : List E)
    (are : AreLooked read glance labels (map kept looked)) (place : ℕ) (bits : List Bool) where
  -- at the place of a label stands what is seen in it
  entry_there : slice_get labels place ≡ Some bits
      → (entry : E) × (slice_get looked place ≡ Some entry) × (kept entry ≡ seen_in read glance bits)
  entry_there at =
      from_option_map kept (slice_get looked place) (seen_in read glance bits)
      (sym (slice_get-map kept looked place)
      ∙ ap (λ (looked : List (Option G)). slice_get looked place) are
      ∙ slice_get-map (seen_in read glance) labels place
      ∙ ap (option_map (seen_in read glance)) at)

  kept_of : slice_get labels place ≡ Some bits
      → option_and_then kept (slice_get looked place) ≡ seen_in read glance bits
  kept_of at =
      let (entry, here, same) = entry_there at in
      ap (option_and_then kept) here ∙ same

  -- what is kept of it is what is seen in the label
  pub kept_there : (entry : E) → slice_get labels place ≡ Some bits
      → entry ≡ get_or looked place entry → kept entry ≡ seen_in read glance bits
  kept_there entry at is =
      let (other, here, same) = entry_there at in
      ap kept (is ∙ get_or_from_slice_get looked place other entry here) ∙ same

-- what keeps what is seen in each label shows it
pub looked_kept : {G E : Type 0} (kept : E → Option G) (keeping : Option G → E)
    (seen : List Bool → Option G) → ((glance : Option G) → kept (keeping glance) ≡ glance)
    → (labels : List (List Bool))
    → map kept (map (λ bits. keeping (seen bits)) labels) ≡ map seen labels
looked_kept kept keeping seen law [] = refl
looked_kept kept keeping seen law (bits ∷ labels) =
    rw (law (seen bits), looked_kept kept keeping seen law labels) refl

-- the port of a view shows the label at the place of the neighbour
pub port_shown : (rows : List NodeRow) (labels : List (List Bool)) (ports : List Port) (p : ℕ)
    (port : Port) (place : ℕ) (bits : List Bool) → slice_get ports p ≡ Some port
    → position (λ row. port.nbr == row.id) rows ≡ Some place → slice_get labels place ≡ Some bits
    → slice_get (map (seen_port (label_of rows labels)) ports) p
    ≡ Some (record { weight = port.weight; label = bits })
port_shown rows labels ports p port place bits at placed has =
    slice_get-map (seen_port (label_of rows labels)) ports p
    ∙ ap (option_map (seen_port (label_of rows labels))) at
    ∙ ap (λ (label : List Bool).
    let shows : SeenPort = record { weight = port.weight; label = label } in Some shows)
    (label_at rows labels port.nbr place bits placed has)

module _ (rows : List NodeRow) (net : IsNetwork rows) (i : ℕ) (ports : List Port)
    (ports_is : option_map (λ (row : NodeRow). row.ports) (slice_get rows i) ≡ Some ports)
    (places : List ℕ) (places_is : places ≡ beside rows i) where
  -- there are as many places as ports
  pub places_for_ports : length places ≡ length ports
  places_for_ports =
      ap (λ (places : List ℕ). length places) places_is ∙ beside_many rows net i ports ports_is

  -- there is a place for each port
  pub place_for_port : (p : ℕ) → p < length ports → p < length places
  place_for_port p within =
      let listed = ap (λ (places : List ℕ). length places) places_is in
      let many = beside_many rows net i ports ports_is in
      omega (arith, listed, many, within)

  -- the neighbour at a port stands at its place
  pub port_placed : (p : ℕ) (port : Port) → slice_get ports p ≡ Some port
      → position (λ row. port.nbr == row.id) rows ≡ Some (get_or places p 0)
  port_placed p port at =
      beside_port rows net i p ports port 0 ports_is at
      ∙ ap (λ (places : List ℕ). Some (get_or places p 0)) (sym places_is)

  -- a pointer is the number of a port
  pub pointer_port : (state : State) (up : ℕ)
      → option_map (λ (row : NodeRow). row.state) (slice_get rows i) ≡ Some state
      → state.up ≡ Some up → up < length ports
  pointer_port state up state_is up_is = by (slice_get rows i) refl state_is ports_is
    where
      by : (found : Option NodeRow) → slice_get rows i ≡ found
          → option_map (λ (row : NodeRow). row.state) found ≡ Some state
          → option_map (λ (row : NodeRow). row.ports) found ≡ Some ports → up < length ports
      by None at one other = absurd (cc)
      by (Some row) at one other =
          let state_same : row.state ≡ state = same_Some row.state state one in
          let ports_same : row.ports ≡ ports = same_Some row.ports ports other in
          subst (λ (ports : List Port). up < length ports) ports_same
          (pointer_within rows net i row at up
          (ap (λ (state : State). state.up) state_same ∙ up_is))

  -- and so of a place
  pub pointer_some : (state : State)
      → option_map (λ (row : NodeRow). row.state) (slice_get rows i) ≡ Some state
      → IfSome state.up (λ up. up < length places)
  pointer_some state state_is = by state.up refl
    where
      by : (up : Option ℕ) → state.up ≡ up → IfSome up (λ up. up < length places)
      by None is = tt
      by (Some up) is = place_for_port up (pointer_port state up state_is is)

  module _ {L G E : Type 0} (read : List Bool → Option L) (glance : L → G) (kept : E → Option G)
      (labels : List (List Bool)) (looked : List E)
      (are : AreLooked read glance labels (map kept looked)) (each : length labels ≡ length rows) where
    -- what is kept of the label at the place of a port's neighbour is what is seen at the port
    pub read_there : (p : ℕ) (shows : SeenPort)
        → slice_get (map (seen_port (label_of rows labels)) ports) p ≡ Some shows
        → kept_at_port kept looked places p ≡ seen_in read glance shows.label
    read_there p shows at =
        kept_of read glance kept labels looked are (get_or places p 0) shows.label
        (ap (λ (places : List ℕ). slice_get labels (get_or places p 0)) places_is
        ∙ port_at rows net labels each i ports ports_is p shows at)

    -- and of the label of the node above what is seen above
    pub above_kept : (state : State)
        → option_map (λ (row : NodeRow). row.state) (slice_get rows i) ≡ Some state
        → option_and_then kept (option_and_then (slice_get looked)
        (option_and_then (slice_get places) state.up))
        ≡ seen_above read glance (map (seen_port (label_of rows labels)) ports) state.up
    above_kept state state_is = by state.up refl
      where
        by : (up : Option ℕ) → state.up ≡ up
            → option_and_then kept (option_and_then (slice_get looked)
            (option_and_then (slice_get places) up))
            ≡ seen_above read glance (map (seen_port (label_of rows labels)) ports) up
        by None is = refl
        by (Some up) is =
            let shown : List SeenPort = map (seen_port (label_of rows labels)) ports in
            let within = pointer_port state up state_is is in
            let many : length shown ≡ length ports = length-map ports (seen_port (label_of rows labels)) in
            let (shows, at) : (shows : SeenPort) × (slice_get shown up ≡ Some shows) =
            item_at shown up (omega (arith, within, many)) in
            ap (λ (place : Option ℕ). option_and_then kept (option_and_then (slice_get looked) place))
            (slice_get-get_or places up 0 (place_for_port up within))
            ∙ read_there up shows at
            ∙ sym (ap (option_and_then (λ (port : SeenPort). seen_in read glance port.label)) at)
