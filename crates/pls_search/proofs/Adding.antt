-- What a search by weights reads and puts ahead, port after port.
use Rattle.std.proofs.Common.{◌≡◌, ◌∙◌, ℕ, ◌+◌, ◌<◌, ◌≤◌, List, [], ◌∷◌, ◌++◌, map, length, get_or, IsPermutation, slice_get, option_map, slice_index_or, take, append_assoc, Option, Some, None, sym, ap, subst, arith}
use Rattle.std.proofs.lemmas.List.{map-append, take_more}
use Rattle.std.proofs.lemmas.List.Sorted.{IsPermutation-push_more}
use Rattle.std.proofs.lemmas.List.Sums.{get_or-le-sum_by}
use Rattle.std.proofs.lemmas.Option.{get_or_from_slice_get, slice_get-get_or}
use Rattle.pls_configuration.specs.declared.limits.TheConstants.{MAX_PORTS}
use Rattle.pls_configuration.specs.declared.row.Port.{Port}
use Rattle.pls_configuration.specs.declared.row.NodeRow.{NodeRow}
use Rattle.pls_configuration.specs.Configuration.{IsNetwork, ports_in}
use Rattle.pls_graph.specs.Places.{beside}
use Rattle.pls_graph.proofs.Beside.{beside_many}
use Rattle.pls_graph.proofs.Finds.{item_at}
use Rattle.pls_search.specs.inner.Ahead.{Ahead}

-- what is read at a place within the list
pub read_within : (found : List (Option ℕ)) (place : ℕ) (entry : Option ℕ) → place < length found
    → entry ≡ slice_index_or found place entry → slice_index_or found place None ≡ entry
read_within found place entry within at =
    get_or_from_slice_get found place (get_or found place entry) None
    (slice_get-get_or found place entry within)
    ∙ sym at

-- a node has at most as many neighbours as there are ports
pub beside_few : (rows : List NodeRow) → IsNetwork rows → (place : ℕ) → place < length rows
    → length (beside rows place) ≤ MAX_PORTS
beside_few rows net place within =
    let (row, at) : (row : NodeRow) × (slice_get rows place ≡ Some row) =
    item_at rows place within in
    let many : length (beside rows place) ≡ length row.ports =
    beside_many rows net place row.ports (ap (option_map (λ (row : NodeRow). row.ports)) at) in
    let part : length (get_or rows place row).ports ≤ ports_in rows =
    get_or-le-sum_by (λ (row : NodeRow). length row.ports) rows place row within in
    let same : get_or rows place row ≡ row = get_or_from_slice_get rows place row row at in
    omega (arith, many, part, ap (λ (row : NodeRow). length row.ports) same, net.limits.few_ports)

-- one port more of those that are added
pub added_more : (f : Port → Ahead) (old new newer : List Ahead) (ports : List Port) (p : ℕ)
    (d : Port) → p < length ports → IsPermutation (old ++ map f (take p ports)) new
    → IsPermutation (f (get_or ports p d) ∷ new) newer
    → IsPermutation (old ++ map f (take (p + 1) ports)) newer
added_more f old new newer ports p d within so_far pushed =
    let last : Ahead = f (get_or ports p d) in
    let more : old ++ map f (take (p + 1) ports) ≡ (old ++ map f (take p ports)) ++ last ∷ [] =
    ap (λ (ports : List Port). old ++ map f ports) (take_more ports p d within)
    ∙ ap (λ (items : List Ahead). old ++ items)
    (map-append f (take p ports) (get_or ports p d ∷ []))
    ∙ sym (append_assoc old (map f (take p ports)) (last ∷ [])) in
    subst (λ (items : List Ahead). IsPermutation items newer) (sym more)
    (IsPermutation-push_more (old ++ map f (take p ports)) new newer last so_far pushed)
