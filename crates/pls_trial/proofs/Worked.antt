-- The definitions at worked examples.
use Rattle.std.proofs.Common.{◌≡◌, ℕ, List, [], ◌∷◌, Option, Some, None, refl}
use Rattle.pls_configuration.specs.declared.row.Port.{Port}
use Rattle.pls_configuration.specs.declared.row.NodeRow.{NodeRow}
use Rattle.pls_trial.specs.Generator.{draw, trial_of}

abbrev node : ℕ → Option ℕ → List Port → NodeRow
node id up ports = record { id = id; state = record { up = up; mark = 0; num = 0 }; ports = ports }

abbrev by : ℕ → ℕ → Port
by nbr weight = record { nbr = nbr; weight = weight }

-- the first draws from 1
first_draw : draw 1 1 ≡ 48271
first_draw = refl

second_draw : draw 1 2 ≡ 182605794
second_draw = refl

third_draw : draw 1 3 ≡ 1291394886
third_draw = refl

-- one node
alone : trial_of 1 7 ≡ node 1 None [] ∷ []
alone = refl

-- two nodes and their one edge, since the links besides find them linked or are to themselves
pair : trial_of 2 1 ≡ node 1 None (by 2 794 ∷ []) ∷ node 2 (Some 0) (by 1 794 ∷ []) ∷ []
pair = refl

-- a tree of four nodes, and one edge besides
four : trial_of 4 5 ≡
    node 1 None (by 2 970 ∷ []) ∷ node 2 (Some 0) (by 1 970 ∷ by 3 597 ∷ by 4 415 ∷ [])
    ∷ node 3 (Some 0) (by 2 597 ∷ by 4 1807 ∷ [])
    ∷ node 4 (Some 0) (by 2 415 ∷ by 3 1807 ∷ []) ∷ []
four = refl
