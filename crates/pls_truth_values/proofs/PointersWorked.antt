-- The tests of pointers at small networks.
use Rattle.std.proofs.Common.{◌≡◌, ℕ, true, false, List, [], ◌∷◌, Option, Some, None, refl}
use Rattle.pls_configuration.specs.declared.row.Port.{Port}
use Rattle.pls_configuration.specs.declared.row.NodeRow.{NodeRow}
use Rattle.pls_truth_values.specs.PointerTests.{chain_of, chain_within, forest_test, spt_test, tree_test}

-- a neighbour and the weight of the edge to it
abbrev port : ℕ → ℕ → Port
port nbr weight = record { nbr = nbr; weight = weight }

-- a node that points at one of its ports, or at none
abbrev node : ℕ → Option ℕ → List Port → NodeRow
node id up ports = record { id = id; state = record { up = up; mark = 0; num = 0 }; ports = ports }

-- three nodes round a ring, of which the edge between 1 and 3 weighs so much; they point at these
abbrev ring : ℕ → Option ℕ → Option ℕ → Option ℕ → List NodeRow
ring far first second third =
    node 1 first (port 2 1 ∷ port 3 far ∷ []) ∷ node 2 second (port 1 1 ∷ port 3 1 ∷ [])
    ∷ node 3 third (port 1 far ∷ port 2 1 ∷ []) ∷ []

-- 3 points at 2, and 2 at 1
abbrev path : ℕ → List NodeRow
path far = ring far None (Some 0) (Some 1)

-- 2 and 3 point at 1
abbrev star : ℕ → List NodeRow
star far = ring far None (Some 0) (Some 0)

-- each points at the next round the ring
abbrev round : List NodeRow
round = ring 1 (Some 0) (Some 1) (Some 0)

-- 3 alone points, at 2
abbrev two_trees : List NodeRow
two_trees = ring 1 None None (Some 1)

chain_of_path : chain_of (path 1) 3 ≡ 2 ∷ 1 ∷ []
unfolding chain_within
chain_of_path = refl

chain_of_round : chain_of round 3 ≡ 1 ∷ 2 ∷ 3 ∷ []
unfolding chain_within
chain_of_round = refl

path_is_forest : forest_test (path 1) ≡ true
unfolding chain_within
path_is_forest = refl

two_trees_are_forest : forest_test two_trees ≡ true
unfolding chain_within
two_trees_are_forest = refl

round_is_no_forest : forest_test round ≡ false
unfolding chain_within
round_is_no_forest = refl

path_is_tree : tree_test (path 1) ≡ true
unfolding chain_within
path_is_tree = refl

two_trees_are_no_tree : tree_test two_trees ≡ false
unfolding chain_within
two_trees_are_no_tree = refl

-- over 2 the way from 3 to 1 weighs 2
path_is_as_light : spt_test (path 2) ≡ true
unfolding chain_within
path_is_as_light = refl

path_is_heavier : spt_test (path 1) ≡ false
unfolding chain_within
path_is_heavier = refl

star_is_as_light : spt_test (star 2) ≡ true
unfolding chain_within
star_is_as_light = refl

star_is_heavier : spt_test (star 3) ≡ false
unfolding chain_within
star_is_heavier = refl
