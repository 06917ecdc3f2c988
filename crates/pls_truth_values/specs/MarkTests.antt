-- What the marks and numbers of nodes say, as functions from rows to a truth value.
use Rattle.std.specs.Prelude.{◌==◌, Bool, List, length}
use Rattle.std.specs.List.{list_all}
use Rattle.pls_configuration.specs.declared.row.NodeRow.{NodeRow}
use Rattle.pls_facts.specs.OnlyNode.{passing}
use Rattle.pls_facts.specs.Leader.{is_leader}

-- exactly one node is marked as a leader
abbrev pub leader_test : List NodeRow → Bool
leader_test rows = passing is_leader rows == 1

-- the number in each node's state is the number of nodes
abbrev pub count_test : List NodeRow → Bool
count_test rows = list_all (λ row. row.state.num == length rows) rows
