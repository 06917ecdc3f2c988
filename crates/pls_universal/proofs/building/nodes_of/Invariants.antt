use Rattle.std.proofs.Common.{◌≡◌, map, take}
use Rattle.pls_universal.specs.Rules.{node_of}
use Rattle.pls_universal.proofs.building.nodes_of.Given as goal

-- the nodes so far
abbrev pub invariant-loop-row : goal.invariant-loop-row
invariant-loop-row l = l.nodes.items ≡ map node_of (take l.row-index l.rows)
