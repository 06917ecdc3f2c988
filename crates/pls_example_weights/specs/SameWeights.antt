-- The scheme of same weights: the property, what a label says, what a node judges, and the marker's
-- labels. A label is a list whose length is not fixed.
use Rattle.std.specs.Prelude.{◌≡◌, ℕ, ◌≤◌, nat_le, Bool, if◌then◌else◌, List, [], ◌∷◌, length, map, take, Contains, Option, None}
use Rattle.std.specs.List.{list_all}
use Rattle.std.specs.Str.{bytes_eq}
use Rattle.pls_configuration.specs.declared.row.NodeRow.{NodeRow}
use Rattle.pls_graph.specs.declared.size.Size.{Size}
use Rattle.pls_numbers.specs.Fixed.{so_many}
use Rattle.pls_numbers.specs.Shape.{Shape}
use Rattle.pls_scheme.specs.Reading.{Read, ReadPort}

-- the weights at the first ports of a node, four at most
abbrev pub first_weights : NodeRow → List ℕ
first_weights row = take 4 (map (λ port. port.weight) row.ports)

-- the weights at the first ports are the same at all nodes
abbrev pub HaveSameWeights : List NodeRow → Type 0
HaveSameWeights rows = (row other : NodeRow) → Contains rows row → Contains rows other
    → first_weights row ≡ first_weights other

-- the numbers of a label: how many weights, and these
abbrev pub numbers_of_weights : List ℕ → List ℕ
numbers_of_weights weights = length weights ∷ weights

-- the label of numbers
abbrev pub weights_of_numbers : List ℕ → Option (List ℕ)
weights_of_numbers [] = None
weights_of_numbers (count ∷ list) = if nat_le count 4 then so_many count list else None

-- a label is four weights at most
abbrev pub weights_shape : Shape (List ℕ)
weights_shape = record {
  kinds = [];
  numbers = numbers_of_weights;
  Proper = λ weights. length weights ≤ 4;
  of_numbers = weights_of_numbers;
}

-- the weights at the first ports that are read
abbrev pub seen_weights : List (ReadPort (List ℕ)) → List ℕ
seen_weights ports = take 4 (map (λ port. port.weight) ports)

-- the neighbour says these weights
abbrev pub says_weights : List ℕ → ReadPort (List ℕ) → Bool
says_weights weights port = bytes_eq port.label weights

-- rule 3: the label is the weights at the first ports
abbrev pub says_its_weights : Read (List ℕ) → Bool
says_its_weights view = bytes_eq view.own (seen_weights view.ports)

-- rule 4: every neighbour says the same weights
abbrev pub agrees_on_weights : Read (List ℕ) → Bool
agrees_on_weights view = list_all (says_weights view.own) view.ports

-- the rules from 3 on
abbrev pub same_weights_rules : Read (List ℕ) → List Bool
same_weights_rules view = says_its_weights view ∷ agrees_on_weights view ∷ []

-- the label of a node is the weights at its first ports
abbrev pub same_weights_says : List NodeRow → NodeRow → List ℕ → Type 0
same_weights_says rows row label = label ≡ first_weights row

-- no numbers of a marked label are greater: four, and the greatest weight
abbrev pub same_weights_limits : Size → List ℕ
same_weights_limits size =
    4 ∷ size.max_weight ∷ size.max_weight ∷ size.max_weight ∷ size.max_weight ∷ []
