use Rattle.std.proofs.Common.{◌≡◌, map}
use Rattle.std.specs.List.{range_with_len}
use Rattle.pls_graph_edits.specs.Edits.{lone_node}
use Rattle.pls_trial.proofs.trial.nodes_alone.Given as goal

abbrev pub invariant-loop-i : goal.invariant-loop-i
invariant-loop-i l = l.builder ≡ map (λ id. lone_node id 0 0) (range_with_len 1 l.i)
