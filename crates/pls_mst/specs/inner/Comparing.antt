-- What the levels of two neighbours say together.
use Rattle.std.specs.Prelude.{◌≡◌, ℕ, Bool, true, ◌&&◌, ◌||◌, if◌then◌else◌, List}
use Rattle.pls_configuration.specs.Walk.{Edge}
use Rattle.pls_boruvka.specs.declared.level.Level.{Level}
use Rattle.pls_mst.specs.declared.comparing.LevelComparison.{LevelComparison}
use Rattle.pls_mst.specs.declared.comparing.PortEdge.{PortEdge}
use Rattle.pls_mst.specs.Rules.{chose_least, is_chosen_between, is_named_or_shared, on_each_level, on_some_level}

-- the edge between two nodes
abbrev pub edge_between : PortEdge → Edge
edge_between between = record { a = between.a; b = between.b; weight = between.weight }

-- 0 where the edge is in the tree, else 1
abbrev pub outside_of : PortEdge → ℕ
outside_of between = if between.in_tree then 0 else 1

-- what the levels of the node of this name and those of a neighbour say together
abbrev pub compared : PortEdge → ℕ → List Level → List Level → LevelComparison
compared between own mine theirs = record {
  shares = on_each_level (is_named_or_shared own) mine theirs;
  least = on_each_level (chose_least (edge_between between) (outside_of between)) mine theirs;
  chosen = on_some_level (is_chosen_between (edge_between between)) mine theirs;
}

-- what some levels say and those behind them
abbrev pub both_compared : LevelComparison → LevelComparison → LevelComparison
both_compared front behind = record {
  shares = front.shares && behind.shares;
  least = front.least && behind.least;
  chosen = front.chosen || behind.chosen;
}

-- what is found is what is said, of which all counts at a port along which the node points, and at
-- others only whether the chosen edges are least
abbrev pub CountsAs : Bool → LevelComparison → LevelComparison → Type 0
CountsAs pointer found said = (found.least ≡ said.least) × (pointer ≡ true → found ≡ said)
