-- What a node reads in the table of what all labels say is what it reads in its view.
use Rattle.std.proofs.Common.{◌≡◌, ◌∙◌, ℕ, ◌<◌, Bool, List, [], ◌∷◌, length, get_or, map, zip, Option, Some, None, option_map, slice_get, refl, sym, ap, subst, arith}
use Rattle.std.specs.Prelude.{IfSome, option_and_then, unwrap_or}
use Rattle.std.specs.Option.{ForSome, is_some}
use Rattle.std.specs.List.{list_all}
use Rattle.std.proofs.lemmas.List.{ext_get_or, length-map}
use Rattle.std.proofs.lemmas.Option.{get_or_from_slice_get, slice_get-get_or, slice_get-map}
use Rattle.std.proofs.lemmas.List.Folds.{list_all-map}
use Rattle.std.proofs.lemmas.Slice.Zip.{get_or-zip, length-zip}
use Rattle.pls_configuration.specs.declared.row.State.{State}
use Rattle.pls_configuration.specs.declared.row.Port.{Port}
use Rattle.pls_configuration.specs.declared.row.NodeRow.{NodeRow}
use Rattle.pls_configuration.specs.Configuration.{IsNetwork}
use Rattle.pls_graph.specs.Places.{beside}
use Rattle.pls_labels.specs.Seen.{SeenPort, label_of, seen_port}
use Rattle.pls_labels.proofs.Views.{port_at}
use Rattle.pls_graph.proofs.Finds.{item_at}
use Rattle.pls_numbers.specs.declared.kind.FieldKind.{FieldKind}
use Rattle.pls_scheme.specs.Reading.{ReadPort}
use Rattle.pls_scheme.proofs.LookedAt.{places_for_ports, shown_from}
use Rattle.pls_compile.specs.FieldTable.{port_in, said_at, sight_in}
use Rattle.pls_compile.specs.ReadLabels.{is_read, numbers_in, port_values, sight_of}

-- there are as many ports as are read
pub ports_many : (table : List (Option (List ℕ))) (ports : List Port) (places : List ℕ)
    → length places ≡ length ports
    → length (map (port_in table) (zip ports places)) ≡ length ports
ports_many table ports places as_many =
    let zipped = length-zip ports places in
    length-map (zip ports places) (port_in table) ∙ omega (arith, zipped, as_many)

-- and a pointer is the number of one
pub pointer_many : (table : List (Option (List ℕ))) (ports : List Port) (places : List ℕ)
    → length places ≡ length ports → (up : Option ℕ) → ForSome up (λ port. port < length ports)
    → IfSome up (λ port. port < length (map (port_in table) (zip ports places)))
pointer_many table ports places as_many None within = tt
pointer_many table ports places as_many (Some up) within =
    let many = ports_many table ports places as_many in
    let small = within up refl in omega (arith, many, small)

-- what is read at a port
pub port_read : (table : List (Option (List ℕ))) (ports : List Port) (places : List ℕ) (p : ℕ)
    (none : Port) → length places ≡ length ports → p < length ports
    → slice_get (map (port_in table) (zip ports places)) p
    ≡ Some (port_in table (get_or ports p none, get_or places p 0))
port_read table ports places p none as_many within =
    let zipped = length-zip ports places in
    slice_get-map (port_in table) (zip ports places) p
    ∙ ap (option_map (port_in table))
    (slice_get-get_or (zip ports places) p (none, 0) (omega (arith, zipped, as_many, within))
    ∙ ap Some (get_or-zip ports places p (none, 0) within (omega (arith, as_many, within))))

-- a field of the label there, where it is said
pub field_read : (table : List (Option (List ℕ))) (ports : List Port) (places : List ℕ)
    → length places ≡ length ports → (p field : ℕ)
    → p < length (map (port_in table) (zip ports places)) → (P : ℕ → Type 0)
    → (said : Option (List ℕ)) → said ≡ said_at table (get_or places p 0)
    → IfSome (slice_get (unwrap_or said []) field) P
    → IfSome (option_and_then (λ (port : ReadPort (List ℕ)). slice_get port.label field)
    (slice_get (map (port_in table) (zip ports places)) p)) P
field_read table ports places as_many p field within P said is holds =
    let many = ports_many table ports places as_many in
    let none : Port = record { nbr = 0; weight = 0 } in
    subst (λ (port : Option (ReadPort (List ℕ))). IfSome (option_and_then
    (λ (port : ReadPort (List ℕ)). slice_get port.label field) port) P)
    (sym (port_read table ports places p none as_many (omega (arith, many, within))))
    (subst (λ (said : Option (List ℕ)). IfSome (slice_get (unwrap_or said []) field) P) is holds)

-- the weights are those of the ports, and the labels what is said of them
zipped : (kinds : List FieldKind) (table : List (Option (List ℕ))) (label : ℕ → List Bool)
    (ports : List Port) (places : List ℕ)
    → map (λ (port : SeenPort). numbers_in kinds port.label) (map (seen_port label) ports)
    ≡ map (said_at table) places
    → map (port_values kinds) (map (seen_port label) ports)
    ≡ map (port_in table) (zip ports places)
zipped kinds table label [] [] said = refl
zipped kinds table label [] (place ∷ places) said = absurd (cc)
zipped kinds table label (port ∷ ports) [] said = absurd (cc)
zipped kinds table label (port ∷ ports) (place ∷ places) said =
    let first : numbers_in kinds (label port.nbr) ≡ said_at table place = cc in
    let others : map (λ (port : SeenPort). numbers_in kinds port.label) (map (seen_port label) ports)
    ≡ map (said_at table) places = cc in
    let rest = zipped kinds table label ports places others in
    rw (first, rest) refl

module _ (kinds : List FieldKind) (rows : List NodeRow) (net : IsNetwork rows)
    (labels : List (List Bool)) (each : length labels ≡ length rows)
    (table : List (Option (List ℕ))) (table_is : table ≡ map (numbers_in kinds) labels) where
  -- what is said at the place of a label
  pub said_there : (place : ℕ) (bits : List Bool) → slice_get labels place ≡ Some bits
      → said_at table place ≡ numbers_in kinds bits
  said_there place bits at =
      get_or_from_slice_get table place (numbers_in kinds bits) None
      (ap (λ (table : List (Option (List ℕ))). slice_get table place) table_is
      ∙ slice_get-map (numbers_in kinds) labels place ∙ ap (option_map (numbers_in kinds)) at)

  module _ (i : ℕ) (ports : List Port)
      (ports_is : option_map (λ (row : NodeRow). row.ports) (slice_get rows i) ≡ Some ports)
      (places : List ℕ) (places_is : places ≡ beside rows i) where
    -- what the node sees at its ports
    abbrev shown : List SeenPort
    shown = map (seen_port (label_of rows labels)) ports

    as_many : length places ≡ length ports
    as_many = places_for_ports rows net i ports ports_is places places_is

    said_beside : (p : ℕ) (port : SeenPort) → slice_get shown p ≡ Some port
        → said_at table (get_or places p 0) ≡ numbers_in kinds port.label
    said_beside p port at =
        said_there (get_or places p 0) port.label
        (ap (λ (places : List ℕ). slice_get labels (get_or places p 0)) places_is
        ∙ port_at rows net labels each i ports ports_is p port at)

    -- what the labels at the ports say is said at the places
    said_at_ports : map (λ (port : SeenPort). numbers_in kinds port.label) shown
        ≡ map (said_at table) places
    said_at_ports =
        let numbers : SeenPort → Option (List ℕ) = λ port. numbers_in kinds port.label in
        let left = length-map shown numbers in
        let inner = length-map ports (seen_port (label_of rows labels)) in
        let right = length-map places (said_at table) in
        ext_get_or None (map numbers shown) (map (said_at table) places)
        (omega (arith, left, inner, right, as_many)) (λ k below.
        let (port, at) : (port : SeenPort) × (slice_get shown k ≡ Some port) =
        item_at shown k (omega (arith, below, left)) in
        get_or_from_slice_get (map numbers shown) k (numbers port) None
        (slice_get-map numbers shown k ∙ ap (option_map numbers) at)
        ∙ sym (said_beside k port at)
        ∙ sym (get_or_from_slice_get (map (said_at table) places) k
        (said_at table (get_or places k 0)) None
        (slice_get-map (said_at table) places k ∙ ap (option_map (said_at table))
        (slice_get-get_or places k 0 (omega (arith, below, left, inner, as_many))))))

    -- so all of them are read where something is said at each of the places
    pub all_said : list_all (λ (port : SeenPort). is_read kinds port.label) shown
        ≡ list_all (λ place. is_some (said_at table place)) places
    all_said =
        sym (list_all-map is_some (λ (port : SeenPort). numbers_in kinds port.label) shown)
        ∙ ap (list_all is_some) said_at_ports ∙ list_all-map is_some (said_at table) places

    -- and the node reads the same
    pub same_sight : (id : ℕ) (state : State) (bits : List Bool) (own : List ℕ)
        → numbers_in kinds bits ≡ Some own
        → sight_of kinds (shown_from rows labels id state bits ports)
        ≡ sight_in table id state own ports places
    same_sight id state bits own said =
        let beside_it = zipped kinds table (label_of rows labels) ports places said_at_ports in
        rw (said, beside_it) refl
