-- Views under labels that are parts of others, and what holds of each label that a node sees.
use Rattle.std.proofs.Common.{◌≡◌, ◌∙◌, ℕ, ◌==◌, Bool, List, [], ◌∷◌, length, map, get_or, position, Option, Some, None, option_map, All, Contains, refl, sym, ap, subst}
use Rattle.std.specs.Prelude.{slice_get, unwrap_or, option_and_then}
use Rattle.std.proofs.lemmas.Option.{get_or_from_slice_get, slice_get-get_or, slice_get-map, slice_get_within}
use Rattle.std.proofs.lemmas.List.Elements.{All-map}
use Rattle.pls_configuration.specs.declared.row.NodeRow.{NodeRow}
use Rattle.pls_configuration.specs.declared.row.Port.{Port}
use Rattle.pls_configuration.specs.Configuration.{IsNetwork}
use Rattle.pls_graph.proofs.Members.{place_from_Contains}
use Rattle.pls_graph.specs.Places.{beside}
use Rattle.pls_graph.proofs.Beside.{beside_port}
use Rattle.pls_graph.proofs.Placed.{place_of_row}
use Rattle.pls_labels.proofs.Views.{label_stands}
use Rattle.pls_labels.specs.Seen.{EachFits, SeenPort, label_of, narrow_by, narrow_port, seen, seen_port, views}

module _ (narrowed : List Bool → List Bool) (empty : narrowed [] ≡ []) where
  -- the label of an identity under labels that are parts is the part of its label
  pub label_of-narrowed : (rows : List NodeRow) (labels : List (List Bool)) (id : ℕ)
      → label_of rows (map narrowed labels) id ≡ narrowed (label_of rows labels id)
  label_of-narrowed rows labels id = by (position (λ row. id == row.id) rows)
    where
      at : (found : Option (List Bool))
          → unwrap_or (option_map narrowed found) [] ≡ narrowed (unwrap_or found [])
      at None = sym empty
      at (Some bits) = refl

      by : (place : Option ℕ)
          → unwrap_or (option_and_then (slice_get (map narrowed labels)) place) []
          ≡ narrowed (unwrap_or (option_and_then (slice_get labels) place) [])
      by None = sym empty
      by (Some place) =
          ap (λ (found : Option (List Bool)). unwrap_or found [])
          (slice_get-map narrowed labels place)
          ∙ at (slice_get labels place)

  module _ (rows : List NodeRow) (labels : List (List Bool)) where
    ports-narrowed : (ports : List Port)
        → map (seen_port (label_of rows (map narrowed labels))) ports
        ≡ map (narrow_port narrowed) (map (seen_port (label_of rows labels)) ports)
    ports-narrowed [] = refl
    ports-narrowed (port ∷ ports) =
        rw (label_of-narrowed rows labels port.nbr, ports-narrowed ports) refl

    -- the view of a row under labels that are parts is the part of its view
    pub seen-narrowed : (row : NodeRow) → seen (label_of rows (map narrowed labels)) row
        ≡ narrow_by narrowed (seen (label_of rows labels) row)
    seen-narrowed row = rw (label_of-narrowed rows labels row.id, ports-narrowed row.ports) refl

    rows-narrowed : (some : List NodeRow)
        → map (seen (label_of rows (map narrowed labels))) some
        ≡ map (narrow_by narrowed) (map (seen (label_of rows labels)) some)
    rows-narrowed [] = refl
    rows-narrowed (row ∷ others) =
        rw (label_of-narrowed rows labels row.id, ports-narrowed row.ports, rows-narrowed others)
        refl

    -- the views of labels that are parts are the parts of the views
    pub views-narrowed : views rows (map narrowed labels)
        ≡ map (narrow_by narrowed) (views rows labels)
    views-narrowed = rows-narrowed rows

-- what holds of each label holds of that of each node of a network, and so of each that a node sees
module _ (rows : List NodeRow) (net : IsNetwork rows) (labels : List (List Bool))
    (each : length labels ≡ length rows) (P : List Bool → Type 0) (all : All P labels) where
  placed_fits : (id i : ℕ) → position (λ row. id == row.id) rows ≡ Some i → P (label_of rows labels id)
  placed_fits id i place =
      let stands = label_stands rows labels each id i place in
      subst P (get_or_from_slice_get labels i (label_of rows labels id) [] stands)
      (all i [] (slice_get_within labels i (label_of rows labels id) stands))

  pub seen_fits : (row : NodeRow) → Contains rows row
      → EachFits P (seen (label_of rows labels) row)
  seen_fits row in' =
      let place : (i : ℕ) × (slice_get rows i ≡ Some row) = place_from_Contains rows row in' in
      record {
        own = placed_fits row.id place.0 (place_of_row rows net place.0 row place.1);
        ports = All-map (λ (port : SeenPort). P port.label) (seen_port (label_of rows labels))
            row.ports
            (λ p d within. placed_fits (get_or row.ports p d).nbr (get_or (beside rows place.0) p 0)
            (beside_port rows net place.0 p row.ports (get_or row.ports p d) 0
            (ap (option_map (λ (row : NodeRow). row.ports)) place.1)
            (slice_get-get_or row.ports p d within)));
      }
