-- Marked leaders (Korman, Kutten and Peleg 2010, the leader example).
use Rattle.std.specs.Prelude.{◌≡◌, ◌==◌, Bool, List}
use Rattle.pls_configuration.specs.declared.row.State.{State}
use Rattle.pls_configuration.specs.declared.row.NodeRow.{NodeRow}
use Rattle.pls_facts.specs.OnlyNode.{passing}

-- the node is marked as a leader: its mark is 1
abbrev pub is_leader : State → Bool
is_leader state = state.mark == 1

-- exactly one node is marked as a leader
abbrev pub HasOneLeader : List NodeRow → Type 0
HasOneLeader rows = passing is_leader rows ≡ 1
