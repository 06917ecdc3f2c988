-- The scheme of forests: what a label says, what a node judges, and the marker's labels. The
-- property is that following pointers never leads back to the start.
use Rattle.std.specs.Prelude.{ℕ, ◌==◌, Bool, ◌||◌, List, [], ◌∷◌, get_or}
use Rattle.pls_configuration.specs.declared.row.NodeRow.{NodeRow}
use Rattle.pls_graph.specs.declared.size.Size.{Size}
use Rattle.pls_numbers.specs.Fixed.{fixed_shape}
use Rattle.pls_numbers.specs.Shape.{Shape}
use Rattle.pls_scheme.specs.Reading.{Read}
use Rattle.pls_facts.specs.Pointer.{IsChainOf, NoneReturns}
use Rattle.pls_pointer.specs.Pointing.{is_one_deeper_than_target, points}
use Rattle.pls_pointer.specs.declared.forest.ForestLabel.{ForestLabel}

-- no chain of pointers returns
abbrev pub IsForest : List NodeRow → Type 0
IsForest rows = NoneReturns rows

-- the number of a label
abbrev pub numbers_of_forest : ForestLabel → List ℕ
numbers_of_forest label = label.depth ∷ []

-- the label of a number
abbrev pub forest_label : List ℕ → ForestLabel
forest_label list = record { depth = get_or list 0 0 }

-- a label is one number, in code
abbrev pub forest_shape : Shape ForestLabel
forest_shape = fixed_shape 1 numbers_of_forest forest_label

-- rule 3: the node points at a port, or its depth is 0
abbrev pub points_or_is_at_0 : Read ForestLabel → Bool
points_or_is_at_0 view = points view || view.own.depth == 0

-- rule 4: the node points at no port, or it is one deeper than the node that it points at
abbrev pub is_deeper_in_forest : Read ForestLabel → Bool
is_deeper_in_forest view = is_one_deeper_than_target (λ label. label.depth) view

-- the rules from 3 on
abbrev pub forest_rules : Read ForestLabel → List Bool
forest_rules view = points_or_is_at_0 view ∷ is_deeper_in_forest view ∷ []

-- the label of a node is the length of its chain of pointers
abbrev pub forest_says : List NodeRow → NodeRow → ForestLabel → Type 0
forest_says rows row label = (last : ℕ) × IsChainOf rows row.id last label.depth

-- no number of a marked label is greater: the number of nodes
abbrev pub forest_limits : Size → List ℕ
forest_limits size = size.nodes ∷ []
