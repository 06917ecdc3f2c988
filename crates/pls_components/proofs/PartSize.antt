-- How large rows are, one row after another.
use Rattle.std.proofs.Common.{◌≡◌, ◌∙◌, ℕ, ◌+◌, ◌<◌, ◌≤◌, max, List, [], ◌∷◌, ◌++◌, All, map, take, drop, slice_get, length, refl, sym, ap, arith, append-nil, length-append, length-take, take-append-drop}
use Rattle.std.specs.List.{flat_map}
use Rattle.std.proofs.lemmas.List.{map-append}
use Rattle.std.proofs.lemmas.List.Concat.{flat_map-append}
use Rattle.std.proofs.lemmas.List.Elements.{All-take, filter_map-append}
use Rattle.std.proofs.lemmas.List.Sums.{sum_by-append, sum_by_push}
use Rattle.pls_configuration.specs.declared.row.Port.{Port}
use Rattle.pls_configuration.specs.declared.row.NodeRow.{NodeRow}
use Rattle.pls_configuration.specs.Configuration.{ports_in}
use Rattle.pls_graph.specs.declared.size.Size.{Size}
use Rattle.pls_graph.specs.Size.{greatest, size_of, weights_of}
use Rattle.pls_components.specs.Components.{items_at}
use Rattle.pls_components.proofs.Bounds.{greatest-append, greatest_one_more}
use Rattle.pls_components.proofs.Items.{length-items}

abbrev ports_of : NodeRow → List Port
ports_of row = row.ports

abbrev weight_of : Port → ℕ
weight_of port = port.weight

module _ (rows : List NodeRow) (row : NodeRow) where
  weights-push : greatest (weights_of (rows ++ row ∷ []))
      ≡ max (greatest (weights_of rows)) (greatest (map weight_of row.ports))
  weights-push =
      ap (λ (ports : List Port). greatest (map weight_of ports))
      (flat_map-append ports_of rows (row ∷ [])
      ∙ ap (λ (last : List Port). flat_map ports_of rows ++ last) (append-nil row.ports))
      ∙ ap greatest (map-append weight_of (flat_map ports_of rows) row.ports)
      ∙ greatest-append (weights_of rows) (map weight_of row.ports)

  -- the size with one row more
  abbrev size_with : Size → Size
  size_with size = record {
    nodes = size.nodes + 1;
    ports = size.ports + length row.ports;
    max_id = max size.max_id row.id;
    max_weight = max size.max_weight (greatest (map weight_of row.ports));
    max_degree = max size.max_degree (length row.ports);
    max_mark = max size.max_mark row.state.mark;
    max_num = max size.max_num row.state.num;
  }

  size-push : size_of (rows ++ row ∷ []) ≡ size_with (size_of rows)
  size-push = rw (
    length-append rows (row ∷ []),
    sum_by_push (λ (row : NodeRow). length row.ports) rows row,
    greatest_one_more (λ (row : NodeRow). row.id) rows row,
    weights-push,
    greatest_one_more (λ (row : NodeRow). length row.ports) rows row,
    greatest_one_more (λ (row : NodeRow). row.state.mark) rows row,
    greatest_one_more (λ (row : NodeRow). row.state.num) rows row,
  ) refl

  -- the same, with each greatest number as it is found
  pub size_by_parts : (size : Size) → size ≡ size_of rows → (id weight degree mark num : ℕ)
      → id ≡ max size.max_id row.id
      → weight ≡ max size.max_weight (greatest (map (λ (port : Port). port.weight) row.ports))
      → degree ≡ max size.max_degree (length row.ports) → mark ≡ max size.max_mark row.state.mark
      → num ≡ max size.max_num row.state.num
      → record {
        nodes = size.nodes + 1;
        ports = size.ports + length row.ports;
        max_id = id;
        max_weight = weight;
        max_degree = degree;
        max_mark = mark;
        max_num = num;
      } ≡ size_of (rows ++ row ∷ [])
  size_by_parts size is id weight degree mark num a b c d e =
      rw (a, b, c, d, e) refl ∙ ap size_with is ∙ sym size-push

-- the first of some rows are no more, and have no more ports
module _ (rows : List NodeRow) (places : List ℕ) (i : ℕ) where
  pub fewer_nodes : All (λ (place : ℕ). place < length rows) places
      → length (items_at rows (take i places)) ≤ length (items_at rows places)
  fewer_nodes within =
      let all = length-items rows places within in
      let first = length-items rows (take i places)
      (All-take (λ (place : ℕ). place < length rows) i places within) in
      let front = length-take i places in
      omega arith

  pub fewer_ports : ports_in (items_at rows (take i places)) ≤ ports_in (items_at rows places)
  fewer_ports =
      let all : items_at rows places
      ≡ items_at rows (take i places) ++ items_at rows (drop i places) =
      ap (items_at rows) (sym (take-append-drop i places))
      ∙ filter_map-append (slice_get rows) (take i places) (drop i places) in
      let sum : ports_in (items_at rows places)
      ≡ ports_in (items_at rows (take i places)) + ports_in (items_at rows (drop i places)) =
      ap ports_in all ∙ sum_by-append (λ (row : NodeRow). length row.ports)
      (items_at rows (take i places)) (items_at rows (drop i places)) in
      omega arith
