-- What each node of a network sees, where all labels are changed.
use Rattle.std.proofs.Common.{◌≡◌, ◌∙◌, ℕ, ◌==◌, Bool, List, [], ◌∷◌, length, map, position, get_or, Some, option_map, All, refl, sym, ap}
use Rattle.std.specs.Prelude.{slice_get}
use Rattle.std.proofs.lemmas.Option.{slice_get-map}
use Rattle.pls_configuration.specs.declared.row.NodeRow.{NodeRow}
use Rattle.pls_configuration.specs.declared.row.Port.{Port}
use Rattle.pls_configuration.specs.Configuration.{IsNetwork}
use Rattle.pls_graph.specs.Places.{beside}
use Rattle.pls_graph.proofs.Beside.{beside_port}
use Rattle.pls_graph.proofs.Placed.{place_of_row}
use Rattle.pls_graph.proofs.Members.{Contains-from_place}
use Rattle.pls_graph.proofs.Ranged.{map_same}
use Rattle.pls_labels.specs.Seen.{EachFits, Seen, label_of, narrow_by, narrow_port, seen, seen_port, views}
use Rattle.pls_labels.proofs.Narrowed.{seen_fits}
use Rattle.pls_labels.proofs.Views.{label_at, label_stands}

module _ (rows : List NodeRow) (net : IsNetwork rows) (labels : List (List Bool))
    (each : length labels ≡ length rows) (change : List Bool → List Bool) where
  changed_label : (id i : ℕ) → position (λ row. id == row.id) rows ≡ Some i
      → label_of rows (map change labels) id ≡ change (label_of rows labels id)
  changed_label id i place =
      label_at rows (map change labels) id i (change (label_of rows labels id)) place
      (slice_get-map change labels i ∙ ap (option_map change) (label_stands rows labels each id i place))

  changed_ports : (i : ℕ) (row : NodeRow) → slice_get rows i ≡ Some row
      → map (seen_port (label_of rows (map change labels))) row.ports
      ≡ map (narrow_port change) (map (seen_port (label_of rows labels)) row.ports)
  changed_ports i row at =
      map_same (λ (port : Port). narrow_port change (seen_port (label_of rows labels) port))
      (seen_port (label_of rows (map change labels))) row.ports one
      ∙ sym (twice row.ports)
    where
      twice : (ports : List Port)
          → map (narrow_port change) (map (seen_port (label_of rows labels)) ports)
          ≡ map (λ (port : Port). narrow_port change (seen_port (label_of rows labels) port)) ports
      twice [] = refl
      twice (port ∷ ports) = rw (twice ports) refl

      one : (k : ℕ) (port : Port) → slice_get row.ports k ≡ Some port
          → seen_port (label_of rows (map change labels)) port
          ≡ narrow_port change (seen_port (label_of rows labels) port)
      one k port there =
          rw (changed_label port.nbr (get_or (beside rows i) k 0)
          (beside_port rows net i k row.ports port 0
          (ap (option_map (λ (row : NodeRow). row.ports)) at) there)) refl

  -- the node of a row sees the labels that those it saw are changed to
  changed_seen : (i : ℕ) (row : NodeRow) → slice_get rows i ≡ Some row
      → seen (label_of rows (map change labels)) row
      ≡ narrow_by change (seen (label_of rows labels) row)
  changed_seen i row at =
      rw (changed_label row.id i (place_of_row rows net i row at), changed_ports i row at) refl

  -- what is the same for views with these labels and those is the same for the network
  pub rounds_alike : {X : Type 0} (Known : List Bool → Type 0) → All Known labels
      → (old new : Seen → X)
      → ((view : Seen) → EachFits Known view → new (narrow_by change view) ≡ old view)
      → map new (views rows (map change labels)) ≡ map old (views rows labels)
  rounds_alike {X} Known known old new same =
      twice new (seen (label_of rows (map change labels))) rows
      ∙ map_same (λ (row : NodeRow). old (seen (label_of rows labels) row))
      (λ (row : NodeRow). new (seen (label_of rows (map change labels)) row)) rows
      (λ i row at. ap new (changed_seen i row at)
      ∙ same (seen (label_of rows labels) row) (seen_fits rows net labels each Known known row (Contains-from_place rows i row at)))
      ∙ sym (twice old (seen (label_of rows labels)) rows)
    where
      twice : (f : Seen → X) (g : NodeRow → Seen) (some : List NodeRow)
          → map f (map g some) ≡ map (λ (row : NodeRow). f (g row)) some
      twice f g [] = refl
      twice f g (row ∷ some) = rw (twice f g some) refl
