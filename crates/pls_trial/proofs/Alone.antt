-- The nodes from 1 on, without ports, are a network.
use Rattle.std.proofs.Common.{◌≡◌, ℕ, zero, suc, ◌+◌, ◌≤◌, Bool, false, List, ◌∷◌, map, length, get_or, refl, ap, subst, arith, Contains, None}
use Rattle.std.specs.List.{find, range_with_len}
use Rattle.std.proofs.Math.Dec.{leb}
use Rattle.std.proofs.lemmas.Bool.{lt-leb}
use Rattle.std.proofs.lemmas.List.{length-map}
use Rattle.std.proofs.lemmas.List.Elements.{Contains-get_or}
use Rattle.std.proofs.lemmas.List.FromFn.{length-range_with_len}
use Rattle.std.proofs.lemmas.List.Sums.{sum_by-cons}
use Rattle.pls_configuration.specs.declared.limits.TheConstants.{MAX_NUM}
use Rattle.pls_configuration.specs.declared.row.NodeRow.{NodeRow}
use Rattle.pls_configuration.specs.Configuration.{AreWithinLimits, differs_in_weight, ids_of, lacks_way_back, links_itself, names_twice, names_unknown, out_of_order, points_nowhere, ports_in, refusal_of}
use Rattle.pls_configuration.specs.declared.refusal.BuildError.{BuildError}
use Rattle.pls_configuration.specs.declared.refusal.BuildError.TheVariants.{NoMemory, OneWay, Order, Pointer, SelfLink, Twice, Unknown, Weights}
use Rattle.pls_graph.specs.Build.{IsRefusal, SaysRefusal}
use Rattle.pls_graph_edits.specs.Edits.{lone_node}
use Rattle.pls_graph.proofs.Members.{Contains-from_map}
use Rattle.pls_trial.specs.Generator.{nodes_alone}
use Rattle.pls_trial.proofs.Linking.{Each}

-- so many nodes without ports, from one on
abbrev from : ℕ → ℕ → List NodeRow
from first count = map (λ id. lone_node id 0 0) (range_with_len first count)

-- their identities
pub ids_of-nodes_alone : (nodes : ℕ) → ids_of (nodes_alone nodes) ≡ range_with_len 1 nodes
ids_of-nodes_alone nodes = by 1 nodes
  where
    by : (first count : ℕ) → ids_of (from first count) ≡ range_with_len first count
    by first zero = refl
    by first (suc count) = ap (λ (ids : List ℕ). first ∷ ids) (by (first + 1) count)

pub ports_in-nodes_alone : (nodes : ℕ) → ports_in (nodes_alone nodes) ≡ 0
ports_in-nodes_alone nodes = by 1 nodes
  where
    many : NodeRow → ℕ
    many = λ row. length row.ports

    by : (first count : ℕ) → ports_in (from first count) ≡ 0
    by first zero = refl
    by first (suc count) =
        let rest = by (first + 1) count in
        omega (arith, rest, sum_by-cons many (lone_node first 0 0) (from (first + 1) count))

-- what holds of each of them
pub Each-nodes_alone : (P : NodeRow → Type 0) (nodes : ℕ) → ((id : ℕ) → P (lone_node id 0 0))
    → Each P (nodes_alone nodes)
Each-nodes_alone P nodes each row in' =
    let (id, id_in, is) : (id : ℕ) × Contains (range_with_len 1 nodes) id
    × (lone_node id 0 0 ≡ row) =
    Contains-from_map (λ (id : ℕ). lone_node id 0 0) (range_with_len 1 nodes) row in' in
    subst P is (each id)

-- a test that fails at nodes without ports finds none
fails : (p : NodeRow → Bool) → ((id : ℕ) → p (lone_node id 0 0) ≡ false) → (nodes : ℕ)
    → find p (nodes_alone nodes) ≡ None
fails p false_at nodes = by 1 nodes
  where
    by : (first count : ℕ) → find p (from first count) ≡ None
    by first zero = refl
    by first (suc count) = rw (false_at first) (by (first + 1) count)

-- they rise
rise : (nodes : ℕ) → out_of_order (nodes_alone nodes) ≡ None
rise nodes = by 1 nodes
  where
    by : (first count : ℕ) → out_of_order (from first count) ≡ None
    by first zero = refl
    by first (suc zero) = refl
    by first (suc (suc count)) =
        let above : leb (first + 1) first ≡ false = lt-leb (first + 1) first (omega arith) in
        let rest = by (first + 1) (suc count) in
        rw above rest

-- so they are not refused
pub nodes_alone_valid : (nodes : ℕ) → refusal_of (nodes_alone nodes) ≡ None
nodes_alone_valid nodes =
    let rows : List NodeRow = nodes_alone nodes in
    rw (
      rise nodes,
      fails links_itself (λ id. refl) nodes,
      fails names_twice (λ id. refl) nodes,
      fails (names_unknown rows) (λ id. refl) nodes,
      fails (lacks_way_back rows) (λ id. refl) nodes,
      fails (differs_in_weight rows) (λ id. refl) nodes,
      fails points_nowhere (λ id. refl) nodes,
    ) refl

-- and are within the limits
pub nodes_alone_within : (nodes : ℕ) → 1 ≤ nodes → nodes ≤ 32768
    → AreWithinLimits (nodes_alone nodes)
nodes_alone_within nodes some few =
    let many = length-map (range_with_len 1 nodes) (λ (id : ℕ). lone_node id 0 0) in
    record {
      some = omega (arith, many, length-range_with_len 1 nodes);
      few_nodes = omega (arith, many, length-range_with_len 1 nodes);
      few_ports = omega (arith, ports_in-nodes_alone nodes);
      small = λ i d within. Each-nodes_alone (λ row. row.state.num ≤ MAX_NUM) nodes
          (λ id. omega arith) (get_or (nodes_alone nodes) i d)
          (Contains-get_or (nodes_alone nodes) i d within);
    }

-- so a network of them fails for want of memory alone
pub memory_lacks : (nodes : ℕ) (error : BuildError) → IsRefusal (nodes_alone nodes) error
    → error ≡ NoMemory
memory_lacks nodes error says = by error (subst (λ refusal. SaysRefusal refusal error) (nodes_alone_valid nodes) says)
  where
    by : (error : BuildError) → SaysRefusal None error → error ≡ NoMemory
    by NoMemory says = refl
    by (Order id) says = absurd (cc)
    by (SelfLink id) says = absurd (cc)
    by (Twice id) says = absurd (cc)
    by (Unknown id) says = absurd (cc)
    by (OneWay id) says = absurd (cc)
    by (Weights id) says = absurd (cc)
    by (Pointer id) says = absurd (cc)
