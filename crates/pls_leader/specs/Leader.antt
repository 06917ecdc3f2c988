-- The scheme of one leader: what a label says, what a node judges, and the marker's labels. The
-- property is that exactly one node has mark 1 (Korman, Kutten and Peleg 2010, the leader scheme).
use Rattle.std.specs.Prelude.{◌≡◌, ℕ, ◌+◌, ◌==◌, Bool, ◌||◌, List, [], ◌∷◌, Contains, get_or, true}
use Rattle.std.specs.Bool.{beq}
use Rattle.std.specs.List.{list_any}
use Rattle.pls_configuration.specs.declared.row.NodeRow.{NodeRow}
use Rattle.pls_configuration.specs.Walk.{edges_of}
use Rattle.pls_graph.specs.Levels.{IsLevel}
use Rattle.pls_graph.specs.declared.size.Size.{Size}
use Rattle.pls_numbers.specs.Fixed.{fixed_shape}
use Rattle.pls_numbers.specs.Shape.{Shape}
use Rattle.pls_scheme.specs.Reading.{Read, ReadPort, agrees_on}
use Rattle.pls_facts.specs.Leader.{is_leader}
use Rattle.pls_leader.specs.declared.leader.LeaderLabel.{LeaderLabel}
use Rattle.pls_leader.specs.Rooted.{is_0_at_root_alone}

-- the numbers of a label
abbrev pub numbers_of_leader : LeaderLabel → List ℕ
numbers_of_leader label = label.root ∷ label.depth ∷ []

-- the label of two numbers
abbrev pub leader_label : List ℕ → LeaderLabel
leader_label list = record { root = get_or list 0 0; depth = get_or list 1 0 }

-- a label is two numbers, each in code
abbrev pub leader_shape : Shape LeaderLabel
leader_shape = fixed_shape 2 numbers_of_leader leader_label

-- the neighbour is one less deep than this
abbrev pub is_one_less_deep : ℕ → ReadPort LeaderLabel → Bool
is_one_less_deep depth port = depth == port.label.depth + 1

-- rule 3: every neighbour's root is the own root
abbrev pub agrees_on_leader : Read LeaderLabel → Bool
agrees_on_leader view = agrees_on (λ label. label.root) view

-- rule 4: the depth is 0 exactly where the identity is the root
abbrev pub leader_is_root_at_0 : Read LeaderLabel → Bool
leader_is_root_at_0 view = is_0_at_root_alone view.id view.own.root view.own.depth

-- rule 5: the depth is 0, or some neighbour is one less deep
abbrev pub falls_to_root : Read LeaderLabel → Bool
falls_to_root view =
    view.own.depth == 0 || list_any (is_one_less_deep view.own.depth) view.ports

-- rule 6: the node is marked exactly where the depth is 0
abbrev pub is_leader_at_0 : Read LeaderLabel → Bool
is_leader_at_0 view = beq (is_leader view.state) (view.own.depth == 0)

-- the rules from 3 on
abbrev pub leader_rules : Read LeaderLabel → List Bool
leader_rules view =
    agrees_on_leader view ∷ leader_is_root_at_0 view ∷ falls_to_root view ∷ is_leader_at_0 view ∷ []

-- the label of a node is the leader's identity, and the fewest edges from the leader
abbrev pub leader_says : List NodeRow → NodeRow → LeaderLabel → Type 0
leader_says rows row label =
    (leader : NodeRow) → Contains rows leader → is_leader leader.state ≡ true
    → (label.root ≡ leader.id) × IsLevel (edges_of rows) leader.id row.id label.depth

-- no numbers of a marked label are greater: the greatest identity, and the number of nodes
abbrev pub leader_limits : Size → List ℕ
leader_limits size = size.max_id ∷ size.nodes ∷ []
