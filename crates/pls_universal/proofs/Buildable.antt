-- Records of which a network is built.
use Rattle.std.proofs.Common.{◌≡◌, ◌∙◌, ◌≤◌, ◌<◌, ◌+◌, ◌↔◌, ℕ, zero, suc, Bool, true, false, List, [], ◌∷◌, length, get_or, take, nat_le, Contains, Option, Some, None, option_map, slice_get, if◌then◌else◌, refl, sym, ap, subst, arith, IsTrue}
use Rattle.std.specs.List.{list_all}
use Rattle.std.proofs.lemmas.Bool.{false_from_ne_true, le-leb, lt-leb, true≢false}
use Rattle.std.proofs.lemmas.List.{length-map}
use Rattle.std.proofs.lemmas.List.Sums.{get_or-le-sum_by, list_all-from_AllPass, sum_by-cons, sum_by_more_le}
use Rattle.std.proofs.lemmas.Option.{get_or_from_slice_get, slice_get-get_or, slice_get-map, slice_get_within}
use Rattle.pls_configuration.specs.declared.limits.TheConstants.{MAX_PORTS}
use Rattle.pls_configuration.specs.declared.row.NodeRow.{NodeRow}
use Rattle.pls_configuration.specs.declared.refusal.BuildError.{BuildError}
use Rattle.pls_configuration.specs.Configuration.{IsNetwork, ids_of, ports_in, refusal_of}
use Rattle.pls_graph.specs.Connected.{IsFirstApart, smallest_id}
use Rattle.pls_graph.proofs.Members.{Contains-first}
use Rattle.pls_graph.proofs.Placed.{pointer_within, smallest_first}
use Rattle.pls_universal.specs.declared.map.MapRow.{MapRow}
use Rattle.pls_universal.specs.Rules.{IsTestOf, is_joined, is_network, is_within_limits, node_of, nodes_of, port_of, up_of}
use Rattle.pls_universal.specs.laws.RuleLaws.{joined-connected, network-is}
use Rattle.pls_universal.specs.inner.Stating.{IsNetworkOf, is_pointer_small, ports_stated}

-- as many ports are stated as the rows have
pub ports-stated : (rows : List MapRow) → ports_in (nodes_of rows) ≡ ports_stated rows
ports-stated [] = refl
ports-stated (row ∷ rows) =
    sum_by-cons (λ (row : NodeRow). length row.ports) (node_of row) (nodes_of rows)
    ∙ rw (length-map row.ports port_of, ports-stated rows)
    (sym (sum_by-cons (λ (row : MapRow). length row.ports) row rows))

-- where a record states more ports than are left, they are too many
pub ports-many : (rows : List MapRow) (i : ℕ) (row : MapRow) (left : ℕ) → i < length rows
    → row ≡ get_or rows i row → left + ports_stated (take i rows) ≡ MAX_PORTS
    → left < length row.ports → false ≡ nat_le (ports_stated rows) MAX_PORTS
ports-many rows i row left within at so_far more =
    let one = sum_by_more_le (λ (row : MapRow). length row.ports) rows i row within in
    let here = ap (λ (row : MapRow). length row.ports) at in
    sym (lt-leb (ports_stated rows) MAX_PORTS (omega (arith, one, here, so_far, more)))

-- in a network no pointer is greater than there may be ports
pub pointers_small : (rows : List MapRow) → is_network rows ≡ true
    → list_all is_pointer_small rows ≡ true
pointers_small rows is = list_all-from_AllPass is_pointer_small rows (λ i d within.
    le-leb (get_or rows i d).up MAX_PORTS (small i (get_or rows i d) within
    (slice_get-get_or rows i d within)))
  where
    net : IsNetwork (nodes_of rows)
    net = (network-is rows is).0

    few : (i : ℕ) (node : NodeRow) → slice_get (nodes_of rows) i ≡ Some node
        → length node.ports ≤ MAX_PORTS
    few i node at =
        let within = slice_get_within (nodes_of rows) i node at in
        let same = get_or_from_slice_get (nodes_of rows) i node node at in
        let one = get_or-le-sum_by (λ (row : NodeRow). length row.ports) (nodes_of rows) i node within in
        let most = net.limits.few_ports in
        let here = ap (λ (row : NodeRow). length row.ports) same in
        omega (arith, one, most, here)

    by : (i : ℕ) (row : MapRow) → slice_get (nodes_of rows) i ≡ Some (node_of row)
        → (up : ℕ) → row.up ≡ up → up ≤ MAX_PORTS
    by i row at zero is = omega arith
    by i row at (suc port) is =
        let less = pointer_within (nodes_of rows) net i (node_of row) at port (ap up_of is) in
        let most = few i (node_of row) at in
        omega (arith, less, most)

    small : (i : ℕ) (row : MapRow) → i < length rows → slice_get rows i ≡ Some row
        → row.up ≤ MAX_PORTS
    small i row within at =
        by i row (slice_get-map node_of rows i ∙ ap (option_map node_of) at) row.up refl

-- records within the limits state nodes within them
pub limits-none : (rows : List MapRow) → is_within_limits rows ≡ false → is_network rows ≡ false
limits-none rows beyond = rw beyond refl

pub pointers-none : (rows : List MapRow) → list_all is_pointer_small rows ≡ false
    → is_network rows ≡ false
pointers-none rows great = false_from_ne_true (is_network rows) (λ is.
    let yes = pointers_small rows is in absurd (true≢false (sym yes ∙ great)))

-- the smallest node is a node
smallest_in : (rows : List NodeRow) → IsNetwork rows → Contains (ids_of rows) (smallest_id rows)
smallest_in [] net = absurd (let some = net.limits.some in omega (arith, some))
smallest_in (first ∷ rows) net =
    subst (Contains (ids_of (first ∷ rows))) (sym (smallest_first (first ∷ rows) net first refl))
    (Contains-first first.id (ids_of rows))

-- where a node is apart, not all are joined
pub apart-none : (rows : List NodeRow) → IsNetwork rows → (id : ℕ) → IsFirstApart rows id
    → is_joined rows ≡ false
apart-none rows net id apart = false_from_ne_true (is_joined rows) (λ all.
    apart.apart (joined-connected rows all (smallest_id rows) id (smallest_in rows net) apart.node))

-- where the rows are refused, the records state no network
pub refused-none : (rows : List MapRow) (error : BuildError) → refusal_of (nodes_of rows) ≡ Some error
    → is_network rows ≡ false
refused-none rows error refused = false_from_ne_true (is_network rows) (λ is.
    let valid = (network-is rows is).0.valid in absurd (cc))

-- where they are not, the records state a network exactly where all are joined
pub network-if : (rows : List MapRow) → is_within_limits rows ≡ true
    → refusal_of (nodes_of rows) ≡ None
    → (found : Option (List NodeRow))
    → found ≡ (if is_joined (nodes_of rows) then Some (nodes_of rows) else None)
    → IsNetworkOf rows found
network-if rows within valid found is = by (is_joined (nodes_of rows)) refl found is
  where
    by : (joined : Bool) → is_joined (nodes_of rows) ≡ joined → (found : Option (List NodeRow))
        → found ≡ (if joined then Some (nodes_of rows) else None) → IsNetworkOf rows found
    by true all None is = absurd (cc)
    by true all (Some net) is =
        let same : net ≡ nodes_of rows = cc in
        (rw (within, valid, all) refl, same)
    by false apart None is = rw (within, valid, apart) refl
    by false apart (Some net) is = absurd (cc)

-- the answer of the property is that of the test
pub told : (test : List NodeRow → Bool) (holds : List NodeRow → Type 0) → IsTestOf test holds
    → (rows : List MapRow) → is_network rows ≡ true → (has : Bool)
    → IsTrue has ↔ holds (nodes_of rows) → has ≡ test (nodes_of rows)
told test holds law rows is has tells = by has (test (nodes_of rows)) refl tells
  where
    law' : (test (nodes_of rows) ≡ true) ↔ holds (nodes_of rows)
    law' = law (nodes_of rows) (network-is rows is).0 (network-is rows is).1

    by : (has passes : Bool) → test (nodes_of rows) ≡ passes
        → IsTrue has ↔ holds (nodes_of rows) → has ≡ passes
    by true true same tells = refl
    by false false same tells = refl
    by true false same tells =
        absurd (true≢false (sym (law'.1 (tells.0 refl)) ∙ same))
    by false true same tells = tells.1 (law'.0 same)
