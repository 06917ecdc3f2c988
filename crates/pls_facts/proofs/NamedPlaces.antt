-- The places of the nodes that identities and ports name.
use Rattle.std.proofs.Common.{◌≡◌, ◌∙◌, ℕ, ◌==◌, List, Contains, Some, slice_get, refl, sym, ap}
use Rattle.std.proofs.lemmas.List.Folds.{find_at}
use Rattle.pls_configuration.specs.declared.row.Port.{Port}
use Rattle.pls_configuration.specs.declared.row.NodeRow.{NodeRow}
use Rattle.pls_configuration.specs.Configuration.{IsNetwork}
use Rattle.pls_graph.specs.Places.{place_in}
use Rattle.pls_graph.proofs.Beside.{one_place}
use Rattle.pls_graph.proofs.Members.{place_from_Contains}
use Rattle.pls_graph.proofs.Placed.{row_of_place}
use Rattle.pls_facts.proofs.Neighbours.{neighbour_row}

module _ (rows : List NodeRow) (net : IsNetwork rows) where
  -- the row of an identity stands at its place
  pub row_named : (i : ℕ) (row : NodeRow) → slice_get rows i ≡ Some row
      → slice_get rows (place_in rows row.id) ≡ Some row
  row_named i row at =
      sym (find_at (λ (other : NodeRow). row.id == other.id) rows) ∙ row_of_place rows net i row at

  -- that is the place where it was taken from
  pub place_named : (i : ℕ) (row : NodeRow) → slice_get rows i ≡ Some row
      → place_in rows row.id ≡ i
  place_named i row at =
      one_place rows net (place_in rows row.id) i row row (row_named i row at) at refl

  -- the node that a port names stands at the place of its identity
  pub port_named : (row : NodeRow) (port : Port) → Contains rows row → Contains row.ports port
      → (other : NodeRow) × (slice_get rows (place_in rows port.nbr) ≡ Some other)
      × (other.id ≡ port.nbr)
  port_named row port in' has =
      let (other, other_in, is) : (other : NodeRow) × Contains rows other × (other.id ≡ port.nbr) =
      neighbour_row rows net row in' port has in
      let (j, at) : (j : ℕ) × (slice_get rows j ≡ Some other) =
      place_from_Contains rows other other_in in (
        other,
        ap (λ (id : ℕ). slice_get rows (place_in rows id)) (sym is) ∙ row_named j other at,
        is,
      )
