-- The definitions at worked examples.
use Rattle.std.proofs.Common.{◌≡◌, ℕ, List, [], ◌∷◌, Option, Some, None, refl}
use Rattle.pls_configuration.specs.declared.row.Port.{Port}
use Rattle.pls_configuration.specs.declared.row.NodeRow.{NodeRow}
use Rattle.pls_configuration.specs.declared.refusal.BuildError.TheVariants.{Order, SelfLink, Twice, Unknown, OneWay, Weights, Pointer}
use Rattle.pls_configuration.specs.Configuration.{refusal_of}
use Rattle.pls_configuration.specs.Walk.{edges_of}

abbrev node : ℕ → Option ℕ → List Port → NodeRow
node id up ports = record { id = id; state = record { up = up; mark = 0; num = 0 }; ports = ports }

abbrev by : ℕ → ℕ → Port
by nbr weight = record { nbr = nbr; weight = weight }

-- two nodes and an edge are a network
pair : refusal_of (node 1 None (by 2 1 ∷ []) ∷ node 2 None (by 1 1 ∷ []) ∷ []) ≡ None
pair = refl

pair_edges : edges_of (node 1 None (by 2 1 ∷ []) ∷ node 2 None (by 1 1 ∷ []) ∷ [])
    ≡ record { a = 1; b = 2; weight = 1 } ∷ []
pair_edges = refl

falling : refusal_of (node 2 None [] ∷ node 1 None [] ∷ []) ≡ Some (Order 1)
falling = refl

loop : refusal_of (node 1 None (by 1 1 ∷ []) ∷ []) ≡ Some (SelfLink 1)
loop = refl

double : refusal_of (node 1 None (by 2 1 ∷ by 2 1 ∷ []) ∷ node 2 None (by 1 1 ∷ []) ∷ [])
    ≡ Some (Twice 1)
double = refl

-- an unknown neighbour that is named twice is named twice first
double_unknown : refusal_of (node 1 None (by 9 1 ∷ by 9 1 ∷ []) ∷ []) ≡ Some (Twice 1)
double_unknown = refl

unknown : refusal_of (node 1 None (by 9 1 ∷ []) ∷ []) ≡ Some (Unknown 1)
unknown = refl

one_way : refusal_of (node 1 None (by 2 1 ∷ []) ∷ node 2 None [] ∷ []) ≡ Some (OneWay 1)
one_way = refl

weights : refusal_of (node 1 None (by 2 1 ∷ []) ∷ node 2 None (by 1 2 ∷ []) ∷ []) ≡ Some (Weights 1)
weights = refl

pointer : refusal_of (node 1 (Some 1) (by 2 1 ∷ []) ∷ node 2 None (by 1 1 ∷ []) ∷ [])
    ≡ Some (Pointer 1)
pointer = refl
