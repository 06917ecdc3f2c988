-- The record of a node, by what a network lends of the node.
use Rattle.std.proofs.Common.{◌≡◌, ◌∙◌, ℕ, ◌++◌, List, [], ◌∷◌, length, map, get_or, slice_get, Some, option_map, refl, sym, ap}
use Rattle.std.specs.List.{flat_map}
use Rattle.std.proofs.lemmas.List.{get_or-map, length-map}
use Rattle.std.proofs.lemmas.List.Concat.{flat_map-cons}
use Rattle.std.proofs.lemmas.Option.{get_or_from_slice_get, same_Some, slice_get_within}
use Rattle.pls_configuration.specs.declared.row.Port.{Port}
use Rattle.pls_configuration.specs.declared.row.State.{State}
use Rattle.pls_configuration.specs.declared.row.NodeRow.{NodeRow}
use Rattle.pls_universal.specs.Map.{map_of, numbers_of_port, numbers_of_row, port_stated, row_stated, up_stated}

-- the numbers of a port that a network lends
abbrev pub lent_port : Port → List ℕ
lent_port port = numbers_of_port (port_stated port)

-- those of ports are those that a record states
ports-stated : (ports : List Port)
    → flat_map numbers_of_port (map port_stated ports) ≡ flat_map lent_port ports
ports-stated [] = refl
ports-stated (port ∷ ports) =
    flat_map-cons numbers_of_port (port_stated port) (map port_stated ports)
    ∙ ap (λ (others : List ℕ). lent_port port ++ others) (ports-stated ports)
    ∙ sym (flat_map-cons lent_port port ports)

module _ (rows : List NodeRow) (i : ℕ) (row : NodeRow) (at : slice_get rows i ≡ Some row) where
  -- at its place in the map there is its record
  pub record_at : get_or (map_of rows) i (row_stated row) ≡ row_stated row
  record_at =
      get_or-map row_stated rows i row (row_stated row) (slice_get_within rows i row at)
      ∙ ap row_stated (get_or_from_slice_get rows i row row at)

  module _ (id : ℕ) (state : State) (ports : List Port)
      (is_id : option_map (λ row. row.id) (slice_get rows i) ≡ Some id)
      (is_state : option_map (λ row. row.state) (slice_get rows i) ≡ Some state)
      (are_ports : option_map (λ row. row.ports) (slice_get rows i) ≡ Some ports) where
    -- whose numbers are these
    pub lent_numbers : (own up mark : ℕ) → own ≡ id → up ≡ up_stated state.up → mark ≡ state.mark
        → numbers_of_row (row_stated row)
        ≡ own ∷ up ∷ mark ∷ state.num ∷ length ports ∷ flat_map lent_port ports
    lent_numbers own up mark is_own is_up is_mark =
        let one : row.id ≡ id = same_Some row.id id
        (sym (ap (option_map (λ (row : NodeRow). row.id)) at) ∙ is_id) in
        let two : row.state ≡ state = same_Some row.state state
        (sym (ap (option_map (λ (row : NodeRow). row.state)) at) ∙ is_state) in
        let three : row.ports ≡ ports = same_Some row.ports ports
        (sym (ap (option_map (λ (row : NodeRow). row.ports)) at) ∙ are_ports) in
        rw (one, two, three, is_own, is_up, is_mark) (
        ap (λ (degree : ℕ). id ∷ up_stated state.up ∷ state.mark ∷ state.num ∷ degree
        ∷ flat_map numbers_of_port (map port_stated ports)) (length-map ports port_stated)
        ∙ ap (λ (others : List ℕ). id ∷ up_stated state.up ∷ state.mark ∷ state.num
        ∷ length ports ∷ others) (ports-stated ports)
        )
