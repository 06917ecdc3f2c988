-- Views by their places, and the labels that they show by the places of those.
use Rattle.std.proofs.Common.{◌≡◌, ℕ, ◌==◌, Bool, List, [], ◌∷◌, Option, Some, None, length, ap, ◌∙◌, option_map, map, position, get_or, refl, sym, arith}
use Rattle.std.specs.Prelude.{slice_get}
use Rattle.std.proofs.lemmas.List.{length-map}
use Rattle.std.proofs.lemmas.List.Quantifiers.{position-Some}
use Rattle.std.proofs.lemmas.Option.{slice_get-map}
use Rattle.pls_configuration.specs.declared.row.State.{State}
use Rattle.pls_configuration.specs.declared.row.Port.{Port}
use Rattle.pls_configuration.specs.declared.row.NodeRow.{NodeRow}
use Rattle.pls_configuration.specs.Configuration.{IsNetwork}
use Rattle.pls_graph.specs.Places.{beside}
use Rattle.pls_graph.proofs.Beside.{beside_many, beside_port}
use Rattle.pls_graph.proofs.Finds.{from_option_map, item_at}
use Rattle.pls_graph.proofs.Placed.{place_of_row}
use Rattle.pls_labels.specs.Seen.{Seen, SeenPort, label_of, seen, seen_port, views}

-- the view of a row stands at its place
pub view_at : (rows : List NodeRow) (labels : List (List Bool)) (i : ℕ) (row : NodeRow)
    → slice_get rows i ≡ Some row
    → slice_get (views rows labels) i ≡ Some (seen (label_of rows labels) row)
view_at rows labels i row at =
    slice_get-map (seen (label_of rows labels)) rows i
    ∙ ap (option_map (seen (label_of rows labels))) at

-- the label at the place of an identity is its label
pub label_at : (rows : List NodeRow) (labels : List (List Bool)) (id i : ℕ) (own : List Bool)
    → position (λ row. id == row.id) rows ≡ Some i
    → slice_get labels i ≡ Some own → label_of rows labels id ≡ own
label_at rows labels id i own place at = rw (place, at) refl

-- and, where each node has one, that is the label at its place
pub label_stands : (rows : List NodeRow) (labels : List (List Bool)) → length labels ≡ length rows
    → (id i : ℕ) → position (λ row. id == row.id) rows ≡ Some i
    → slice_get labels i ≡ Some (label_of rows labels id)
label_stands [] labels each id i place = absurd (cc)
label_stands (first ∷ rows) labels each id i place =
    let inside = (position-Some (λ row. id == row.id) (first ∷ rows) i first place).0 in
    let (own, at) : (own : List Bool) × (slice_get labels i ≡ Some own) =
    item_at labels i (omega (arith, inside, each)) in
    at ∙ ap Some (sym (label_at (first ∷ rows) labels id i own place at))

-- the view at a place, by its parts
pub view_by_parts : (rows : List NodeRow) (labels : List (List Bool)) (i id : ℕ) (state : State)
    (ports : List Port) (own : List Bool) (shows : List SeenPort)
    → option_map (λ row. row.id) (slice_get rows i) ≡ Some id
    → option_map (λ row. row.state) (slice_get rows i) ≡ Some state
    → option_map (λ row. row.ports) (slice_get rows i) ≡ Some ports
    → label_of rows labels id ≡ own → shows ≡ map (seen_port (label_of rows labels)) ports
    → slice_get (views rows labels) i
    ≡ Some (record { id = id; state = state; own = own; ports = shows })
view_by_parts rows labels i id state ports own shows id_is state_is ports_is own_is shows_is =
    by (slice_get rows i) refl id_is state_is ports_is
  where
    by : (found : Option NodeRow) → slice_get rows i ≡ found
        → option_map (λ row. row.id) found ≡ Some id → option_map (λ row. row.state) found
        ≡ Some state
        → option_map (λ row. row.ports) found ≡ Some ports → slice_get (views rows labels) i
        ≡ Some (record { id = id; state = state; own = own; ports = shows })
    by None at a b c = cc
    by (Some row) at a b c =
        let at_id : row.id ≡ id = cc in
        let at_state : row.state ≡ state = cc in
        let at_ports : row.ports ≡ ports = cc in
        rw (view_at rows labels i row at, at_id, at_state, at_ports, own_is, ← shows_is) refl

-- in a network the identity at a place is found at that place
pub placed : (rows : List NodeRow) → IsNetwork rows → (i id : ℕ)
    → option_map (λ row. row.id) (slice_get rows i) ≡ Some id
    → position (λ row. id == row.id) rows ≡ Some i
placed rows net i id id_is = by (slice_get rows i) refl id_is
  where
    by : (found : Option NodeRow) → slice_get rows i ≡ found
        → option_map (λ row. row.id) found ≡ Some id → position (λ row. id == row.id) rows ≡ Some i
    by None at same = absurd (cc)
    by (Some row) at same =
        let same_id : row.id ≡ id = cc in rw same_id at (place_of_row rows net i row at)

-- what a node of a network sees, by the places of the labels
module _ (rows : List NodeRow) (net : IsNetwork rows) (labels : List (List Bool))
    (each : length labels ≡ length rows) (i : ℕ) where
  -- the label at the place beside a port is what the port shows
  pub port_at : (ports : List Port)
      → option_map (λ (row : NodeRow). row.ports) (slice_get rows i) ≡ Some ports
      → (p : ℕ) (shows : SeenPort)
      → slice_get (map (seen_port (label_of rows labels)) ports) p ≡ Some shows
      → slice_get labels (get_or (beside rows i) p 0) ≡ Some shows.label
  port_at ports ports_is p shows at =
      let label : ℕ → List Bool = label_of rows labels in
      let (port, here, same) : (port : Port) × (slice_get ports p ≡ Some port)
      × (seen_port label port ≡ shows) =
      from_option_map (seen_port label) (slice_get ports p) shows
      (sym (slice_get-map (seen_port label) ports p) ∙ at) in
      label_stands rows labels each port.nbr (get_or (beside rows i) p 0)
      (beside_port rows net i p ports port 0 ports_is here)
      ∙ ap (λ (shows : SeenPort). Some shows.label) same

  module _ (view : Seen) (at : slice_get (views rows labels) i ≡ Some view) where
    -- it is the view of the row there
    of_row : (row : NodeRow) × (slice_get rows i ≡ Some row) × (seen (label_of rows labels) row ≡ view)
    of_row = from_option_map (seen (label_of rows labels)) (slice_get rows i) view
        (sym (slice_get-map (seen (label_of rows labels)) rows i) ∙ at)

    -- the own label of a view is that at the place
    pub own_at : slice_get labels i ≡ Some view.own
    own_at =
        let (row, here, same) = of_row in
        label_stands rows labels each row.id i (place_of_row rows net i row here)
        ∙ ap (λ (view : Seen). Some view.own) same

    -- the ports of a view are as many as the places beside the node
    pub ports_beside : length (beside rows i) ≡ length view.ports
    ports_beside =
        let (row, here, same) = of_row in
        beside_many rows net i row.ports (ap (option_map (λ (row : NodeRow). row.ports)) here)
        ∙ sym (length-map row.ports (seen_port (label_of rows labels)))
        ∙ ap (λ (view : Seen). length view.ports) same

    -- and each shows the label at the place beside it
    pub port_shows : (p : ℕ) (shows : SeenPort) → slice_get view.ports p ≡ Some shows
        → slice_get labels (get_or (beside rows i) p 0) ≡ Some shows.label
    port_shows p shows has =
        let (row, here, same) = of_row in
        port_at row.ports (ap (option_map (λ (row : NodeRow). row.ports)) here) p shows
        (ap (λ (view : Seen). slice_get view.ports p) same ∙ has)
