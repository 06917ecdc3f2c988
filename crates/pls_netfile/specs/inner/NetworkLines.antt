-- Which lines are those of a node and of a port.
use Rattle.std.specs.Prelude.{ℕ, List}
use Rattle.pls_lines.specs.LineKind.{Says}
use Rattle.pls_netfile.specs.NetworkText.{FitsPort, port_line}
use Rattle.pls_netfile.specs.NetworkLine.{FitsNode, written_node}

-- the line of a node
abbrev pub IsNodeLine : List ℕ → Type 0
IsNodeLine line = Says (λ node. FitsNode node.id node.state) written_node line

-- the line of a port
abbrev pub IsPortLine : List ℕ → Type 0
IsPortLine line = Says FitsPort port_line line
