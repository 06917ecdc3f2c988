-- The tests of marks and numbers give true exactly where the properties hold.
use Rattle.std.proofs.Common.{◌≡◌, ◌==◌, ◌↔◌, true, List, length}
use Rattle.pls_configuration.specs.declared.row.NodeRow.{NodeRow}
use Rattle.pls_facts.specs.OnlyNode.{passing}
use Rattle.pls_facts.specs.Leader.{HasOneLeader, is_leader}
use Rattle.pls_facts.specs.NodeCount.{AreCounted}
use Rattle.pls_truth_values.specs.MarkTests.{count_test, leader_test}
use Rattle.pls_truth_values.specs.laws.Tested.{all_tells, same_tells}

-- the test of one leader is right
pub leader_tested : (rows : List NodeRow) → (leader_test rows ≡ true) ↔ HasOneLeader rows
leader_tested rows = same_tells (passing is_leader rows) 1

-- the test of what counts the nodes is right
pub count_tested : (rows : List NodeRow) → (count_test rows ≡ true) ↔ AreCounted rows
count_tested rows = all_tells (λ row. row.state.num == length rows)
    (λ row. row.state.num ≡ length rows) rows
    (λ row in'. same_tells row.state.num (length rows))
