-- A component among all, and the network of its rows.
use Rattle.std.proofs.Common.{◌≡◌, ◌∙◌, ℕ, List, [], ◌∷◌, length, map, slice_get, Some, option_map, refl, sym, ap, arith}
use Rattle.std.proofs.lemmas.Option.{same_Some, slice_get-map}
use Rattle.pls_configuration.specs.declared.row.NodeRow.{NodeRow}
use Rattle.pls_graph.proofs.Finds.{from_option_map}
use Rattle.pls_graph.proofs.Members.{Contains-from_place}
use Rattle.pls_components.specs.Components.{AreComponents, IsComponent, items_at}

-- a list of length 1 has one item
pub only_one : {X : Type 0} (xs : List X) → length xs ≡ 1 → (x : X) × (xs ≡ x ∷ [])
only_one [] one = absurd (omega arith)
only_one (x ∷ []) one = (x, refl)
only_one (x ∷ y ∷ xs) one = absurd (omega arith)

-- what is listed at a number is a component
pub component_at : (rows : List NodeRow) (parts : List (List ℕ)) → AreComponents rows parts
    → (k : ℕ) (places : List ℕ) → slice_get parts k ≡ Some places → IsComponent rows places
component_at rows parts are k places at = are.each places (Contains-from_place parts k places at)

-- a network among those of the components is that of the rows at the places of one
pub part_places : (rows : List NodeRow) (parts : List (List ℕ)) (k : ℕ) (part : List NodeRow)
    → slice_get (map (items_at rows) parts) k ≡ Some part
    → (places : List ℕ) × (slice_get parts k ≡ Some places) × (items_at rows places ≡ part)
part_places rows parts k part at =
    from_option_map (items_at rows) (slice_get parts k) part
    (sym (slice_get-map (items_at rows) parts k) ∙ at)

-- namely of the component of that number
pub part_is : (rows : List NodeRow) (parts : List (List ℕ)) (k : ℕ) (part : List NodeRow)
    (places : List ℕ) → slice_get parts k ≡ Some places
    → slice_get (map (items_at rows) parts) k ≡ Some part → items_at rows places ≡ part
part_is rows parts k part places there at =
    same_Some (items_at rows places) part
    (sym (slice_get-map (items_at rows) parts k ∙ ap (option_map (items_at rows)) there) ∙ at)
