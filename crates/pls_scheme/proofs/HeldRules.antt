-- Labels by places and by identities, and the verdicts of rules over them.
use Rattle.std.proofs.Common.{◌≡◌, ◌∙◌, ◌<◌, ℕ, ◌==◌, List, [], ◌∷◌, length, map, get_or, slice_get, position, Option, Some, IsSome, is_some, option_map, refl, sym, ap, arith}
use Rattle.std.specs.Option.{option_map_or}
use Rattle.std.proofs.lemmas.Bool.{eqb-true}
use Rattle.std.proofs.lemmas.List.{length-map}
use Rattle.std.proofs.lemmas.List.Quantifiers.{position-Some}
use Rattle.std.proofs.lemmas.Option.{get_or_from_slice_get, slice_get-get_or, slice_get-map, slice_get_read}
use Rattle.pls_configuration.specs.declared.row.State.{State}
use Rattle.pls_configuration.specs.declared.row.Port.{Port}
use Rattle.pls_configuration.specs.declared.row.NodeRow.{NodeRow}
use Rattle.pls_configuration.specs.Configuration.{IsNetwork, row_of}
use Rattle.pls_graph.specs.Places.{beside, named_places, place_in}
use Rattle.pls_graph.proofs.Finds.{position-found}
use Rattle.pls_graph.proofs.Placed.{neighbour_found}
use Rattle.pls_scheme.specs.Marked.{AreSaidBy}
use Rattle.pls_scheme.specs.Reading.{label_above, reading, read_where, port_where}
use Rattle.pls_scheme.specs.inner.Holding.{AreKnown}

-- the label at the place of an identity
pub said_at_place : {L : Type 0} (rows : List NodeRow) (labels : List L) (say : ℕ → L)
    → length labels ≡ length rows → AreSaidBy say rows labels → (id place : ℕ) (label : L)
    → position (λ row. id == row.id) rows ≡ Some place → label ≡ get_or labels place label
    → label ≡ say id
said_at_place [] labels say each said id place label found is = absurd (cc)
said_at_place (first ∷ rest) labels say each said id place label found is =
    let rows : List NodeRow = first ∷ rest in
    let at = position-Some (λ (row : NodeRow). id == row.id) rows place first found in
    let row : NodeRow = get_or rows place first in
    let named : id ≡ row.id = eqb-true id row.id at.1 in
    said place row label (slice_get-get_or rows place first at.0)
    (slice_get_read labels (length labels) place label refl (omega (arith, at.0, each)) is)
    ∙ ap say (sym named)

-- and at the place of an identity that is known
pub said_beside : {L : Type 0} (rows : List NodeRow) (labels : List L) (say : ℕ → L)
    → length labels ≡ length rows → AreSaidBy say rows labels → (id : ℕ)
    → IsSome (row_of rows id) → (label : L)
    → label ≡ get_or labels (place_in rows id) label → label ≡ say id
said_beside rows labels say each said id known label is =
    said_at_place rows labels say each said id (place_in rows id) label
    (position-found (λ (row : NodeRow). id == row.id) rows known).0 is

-- the place of the neighbour at a port
pub place_named : (rows : List NodeRow) (ports : List Port) (places : List ℕ)
    → places ≡ named_places rows ports → (p : ℕ) (port : Port) → slice_get ports p ≡ Some port
    → (d : ℕ) → get_or places p d ≡ place_in rows port.nbr
place_named rows ports places are p port at d =
    let here : slice_get places p ≡ Some (place_in rows port.nbr) =
    ap (λ (places : List ℕ). slice_get places p) are
    ∙ slice_get-map (λ (port : Port). place_in rows port.nbr) ports p
    ∙ ap (option_map (λ (port : Port). place_in rows port.nbr)) at in
    get_or_from_slice_get places p (place_in rows port.nbr) d here

-- it is within
pub place_within : (rows : List NodeRow) (id : ℕ) → IsSome (row_of rows id)
    → place_in rows id < length rows
place_within rows id known = (position-found (λ (row : NodeRow). id == row.id) rows known).1

-- so the label at the place of a neighbour is what is said of it
pub said_there : {L : Type 0} (rows : List NodeRow) (labels : List L) (say : ℕ → L)
    → length labels ≡ length rows → AreSaidBy say rows labels → (ports : List Port)
    (places : List ℕ) → places ≡ named_places rows ports → (p : ℕ) (port : Port)
    → slice_get ports p ≡ Some port → IsSome (row_of rows port.nbr) → (d : ℕ) (label : L)
    → label ≡ get_or labels (get_or places p d) label → label ≡ say port.nbr
said_there rows labels say each said ports places are p port at known d label is =
    said_beside rows labels say each said port.nbr known label
    (is ∙ ap (λ (place : ℕ). get_or labels place label)
    (place_named rows ports places are p port at d))

-- the places of the neighbours of the node of a row
pub places_are : (rows : List NodeRow) (i : ℕ) (row : NodeRow) → slice_get rows i ≡ Some row
    → (places : List ℕ) → places ≡ beside rows i → places ≡ named_places rows row.ports
places_are rows i row at places are =
    are ∙ ap (λ (found : Option NodeRow). option_map_or (λ row. named_places rows row.ports) found [])
    at

-- there is one for each port
pub places_many : (rows : List NodeRow) (i : ℕ) (row : NodeRow) → slice_get rows i ≡ Some row
    → (places : List ℕ) → places ≡ beside rows i → (p : ℕ) → p < length row.ports
    → p < length places
places_many rows i row at places are p within =
    let many : length places ≡ length row.ports =
    ap (λ (places : List ℕ). length places) (places_are rows i row at places are)
    ∙ length-map row.ports (λ (port : Port). place_in rows port.nbr) in
    omega (arith, within, many)

-- each port of a node of a network names a node
pub all_known : (rows : List NodeRow) → IsNetwork rows → (i : ℕ) (row : NodeRow)
    → slice_get rows i ≡ Some row → AreKnown rows row.ports
all_known rows net i row at p d within =
    let port : Port = get_or row.ports p d in
    let (other, found) : (other : NodeRow) × (row_of rows port.nbr ≡ Some other) =
    neighbour_found rows net i row at p port (slice_get-get_or row.ports p d within) in
    ap is_some found

-- what the label above says
pub label_above-said : {L : Type 0} (say : ℕ → L) (ports : List Port) (up : ℕ) (port : Port)
    → slice_get ports up ≡ Some port
    → label_above (map (port_where say) ports) (Some up) ≡ Some (say port.nbr)
label_above-said {L} say ports up port at = rw (slice_get-map (port_where say) ports up, at) refl

-- what the node of a row reads, from what is known of the row
pub reading-said : {L : Type 0} (say : ℕ → L) (row : NodeRow) (id : ℕ) (state : State)
    (ports : List Port) (own : L) → row.id ≡ id → row.state ≡ state → row.ports ≡ ports
    → own ≡ say row.id
    → reading id state own (map (port_where say) ports) ≡ read_where say row
reading-said say row id state ports own id_is state_is ports_are own_is =
    rw (← id_is, ← state_is, ← ports_are, own_is) refl
