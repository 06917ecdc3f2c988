-- The two tests at small networks.
use Rattle.std.proofs.Common.{◌≡◌, ℕ, true, false, List, [], ◌∷◌, map, None, refl}
use Rattle.pls_configuration.specs.declared.row.NodeRow.{NodeRow}
use Rattle.pls_diameter_bridges.specs.Tests.{bridgeless_test, diameter_test, walks_within}

-- a node with ports to these
abbrev node : ℕ → List ℕ → NodeRow
node id neighbours =
    record {
      id = id;
      state = record { up = None; mark = 0; num = 0 };
      ports = map (λ nbr. record { nbr = nbr; weight = 1 }) neighbours;
    }

abbrev single : List NodeRow
single = node 1 [] ∷ []

abbrev pair : List NodeRow
pair = node 1 (2 ∷ []) ∷ node 2 (1 ∷ []) ∷ []

abbrev path_of_three : List NodeRow
path_of_three = node 1 (2 ∷ []) ∷ node 2 (1 ∷ 3 ∷ []) ∷ node 3 (2 ∷ []) ∷ []

abbrev triangle : List NodeRow
triangle = node 1 (2 ∷ 3 ∷ []) ∷ node 2 (1 ∷ 3 ∷ []) ∷ node 3 (1 ∷ 2 ∷ []) ∷ []

-- a triangle with a fourth node at its third
abbrev with_tail : List NodeRow
with_tail =
    node 1 (2 ∷ 3 ∷ []) ∷ node 2 (1 ∷ 3 ∷ []) ∷ node 3 (1 ∷ 2 ∷ 4 ∷ []) ∷ node 4 (3 ∷ []) ∷ []

-- a node alone has no edge, so no bridge
single_bridgeless : bridgeless_test single ≡ true
single_bridgeless = refl

-- the edge of a pair is a bridge
pair_bridge : bridgeless_test pair ≡ false
pair_bridge = refl

triangle_bridgeless : bridgeless_test triangle ≡ true
triangle_bridgeless = refl

tail_bridge : bridgeless_test with_tail ≡ false
tail_bridge = refl

-- a node alone is no edge apart from itself
single_apart : diameter_test 0 single ≡ true
unfolding walks_within
single_apart = refl

-- the ends of a path of three nodes are two edges apart
path_two_apart : diameter_test 2 path_of_three ≡ true
unfolding walks_within
path_two_apart = refl

path_not_one_apart : diameter_test 1 path_of_three ≡ false
unfolding walks_within
path_not_one_apart = refl

triangle_one_apart : diameter_test 1 triangle ≡ true
unfolding walks_within
triangle_one_apart = refl
