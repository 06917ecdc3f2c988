-- The definitions at a worked example: two nodes with an edge, and one alone.
use Rattle.std.proofs.Common.{◌≡◌, ℕ, List, [], ◌∷◌, None, refl}
use Rattle.pls_configuration.specs.declared.row.Port.{Port}
use Rattle.pls_configuration.specs.declared.row.NodeRow.{NodeRow}
use Rattle.pls_graph.specs.declared.size.Size.{Size}
use Rattle.pls_components.specs.Components.{items_at, least_id}
use Rattle.pls_components.specs.Parts.{bound_of_parts, room_of_parts}
use Rattle.pls_components.specs.inner.Numbers.{first_place_from, places_of_number}

abbrev by : ℕ → ℕ → Port
by nbr weight = record { nbr = nbr; weight = weight }

abbrev node : ℕ → ℕ → List Port → NodeRow
node id mark ports = record { id = id; state = record { up = None; mark = mark; num = 0 }; ports = ports }

abbrev two_and_one : List NodeRow
two_and_one = node 1 0 (by 2 1 ∷ []) ∷ node 2 0 (by 1 1 ∷ []) ∷ node 3 1 [] ∷ []

second_alone : items_at two_and_one (2 ∷ []) ≡ node 3 1 [] ∷ []
second_alone = refl

second_least : least_id two_and_one (2 ∷ []) ≡ 3
second_least = refl

first_places : places_of_number (0 ∷ 0 ∷ 1 ∷ []) 0 ≡ 0 ∷ 1 ∷ []
first_places = refl

no_place : first_place_from 0 (0 ∷ 0 ∷ 1 ∷ []) 2 ≡ 3
no_place = refl

abbrev parts : List (List ℕ)
parts = (0 ∷ 1 ∷ []) ∷ (2 ∷ []) ∷ []

abbrev one_bit_a_node : Size → ℕ
one_bit_a_node size = size.nodes

greatest_bound : bound_of_parts one_bit_a_node two_and_one parts ≡ 2
greatest_bound = refl

-- two nodes with two bits each, and one with one
sum_of_bounds : room_of_parts one_bit_a_node two_and_one parts ≡ 5
sum_of_bounds = refl
