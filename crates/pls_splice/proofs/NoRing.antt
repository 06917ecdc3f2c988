-- Why a network is no ring.
use Rattle.std.proofs.Common.{◌≡◌, ◌∙◌, ℕ, true, false, Bool, not, ◌==◌, List, find, length, slice_get, All, Contains, Option, Some, None, option_map, refl, sym, ap, subst, arith}
use Rattle.std.proofs.lemmas.Bool.{eqb-true, eq-eqb}
use Rattle.std.proofs.lemmas.Option.{same_Some}
use Rattle.pls_configuration.specs.declared.row.NodeRow.{NodeRow}
use Rattle.pls_configuration.specs.Configuration.{IsNetwork, ids_of}
use Rattle.pls_graph.specs.Connected.{IsFirstApart, smallest_id}
use Rattle.pls_graph.proofs.Finds.{fails_where_none, found_place, item_at}
use Rattle.pls_graph.proofs.Members.{Contains-from_place, Contains-map}
use Rattle.pls_graph.proofs.Placed.{smallest_first}
use Rattle.pls_graph_edits.proofs.Changing.{All-at, All_here}
use Rattle.pls_splice.specs.Ring.{IsRing, NamesNoRing, has_not_two}

two_by_test : (row : NodeRow) → has_not_two row ≡ false → length row.ports ≡ 2
two_by_test row fails = by (length row.ports == 2) refl fails
  where
    by : (b : Bool) → (length row.ports == 2) ≡ b → not b ≡ false → length row.ports ≡ 2
    by true e fails = eqb-true (length row.ports) 2 e
    by false e fails = absurd (cc)

-- where no node is found, each has two ports
pub all_two : (rows : List NodeRow) → find has_not_two rows ≡ None
    → All (λ (row : NodeRow). length row.ports ≡ 2) rows
all_two rows none = All-at (λ (row : NodeRow). length row.ports ≡ 2) rows
    (λ i row at. two_by_test row (fails_where_none has_not_two rows i row none at))

-- a node with another number of ports
pub other_number : (rows : List NodeRow) (id : ℕ)
    → Some id ≡ option_map (λ (row : NodeRow). row.id) (find has_not_two rows)
    → (¬ IsRing rows) × NamesNoRing (find has_not_two rows) rows id
other_number rows id named = by (find has_not_two rows) refl named
  where
    by : (found : Option NodeRow) → find has_not_two rows ≡ found
        → Some id ≡ option_map (λ (row : NodeRow). row.id) found
        → (¬ IsRing rows) × NamesNoRing found rows id
    by None found named = absurd (cc)
    by (Some row) found named = (
      (λ ring.
          let place : (i : ℕ) × (slice_get rows i ≡ Some row) × (has_not_two row ≡ true) =
          found_place has_not_two rows row found in
          let two : (length row.ports == 2) ≡ true = eq-eqb (length row.ports) 2
          (All_here (λ (row : NodeRow). length row.ports ≡ 2) rows ring.two place.0 row place.1) in
          let no : false ≡ true = sym (ap not two) ∙ place.2 in
          absurd (cc)),
      same_Some id row.id named,
    )

-- a node that no walk joins to the first
pub no_walk : (rows : List NodeRow) → IsNetwork rows → (id : ℕ) → find has_not_two rows ≡ None
    → IsFirstApart rows id → (¬ IsRing rows) × NamesNoRing (find has_not_two rows) rows id
no_walk rows net id none apart = (
  (λ ring. apart.apart (ring.connected (smallest_id rows) id first apart.node)),
  subst (λ (found : Option NodeRow). NamesNoRing found rows id) (sym none) apart,
)
  where
    first : Contains (ids_of rows) (smallest_id rows)
    first =
        let (row, at) : (row : NodeRow) × (slice_get rows 0 ≡ Some row) =
        item_at rows 0 (let some = net.limits.some in omega arith) in
        subst (Contains (ids_of rows)) (sym (smallest_first rows net row at))
        (Contains-map (λ (row : NodeRow). row.id) rows row (Contains-from_place rows 0 row at))
