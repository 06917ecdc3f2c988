use Rattle.std.proofs.Common.{◌+◌, ◌≡◌, ◌∙◌, ◌∷◌, ◌++◌, [], ℕ, List, sym, ap, subst, arith}
use Rattle.std.proofs.lemmas.List.FromFn.{map-range_with_len_more}
use Rattle.pls_configuration.specs.declared.row.NodeRow.{NodeRow}
use Rattle.pls_configuration.specs.Configuration.{AreWithinLimits}
use Rattle.pls_graph.specs.Build.{IsRefusal}
use Rattle.pls_graph_edits.specs.Edits.{lone_node}
use Rattle.pls_trial.specs.Generator.{nodes_alone}
use Rattle.pls_trial.proofs.Alone.{memory_lacks, nodes_alone_within}
use Rattle.pls_trial.proofs.trial.nodes_alone.Goals as goal

-- one more node
pub loop-i-preserved : goal.loop-i-preserved
loop-i-preserved c =
    c.in_ok-node.ensures.added
    ∙ ap (λ (rows : List NodeRow). rows ++ lone_node (c.loop-i.i + 1) 0 0 ∷ []) c.loop-i.invariant
    ∙ sym (map-range_with_len_more (λ id. lone_node id 0 0) 1 c.loop-i.i (c.loop-i.i + 1) (omega arith))

-- all nodes
all : (c : goal.After-loop-i) → c.loop-i.builder ≡ nodes_alone c.args.nodes
all c =
    let most = c.loop-i.auto.i-end in
    let past = c.loop-i-test.false in
    c.loop-i.invariant
    ∙ ap (λ (count : ℕ). nodes_alone count) (omega arith)

pub build-requires : goal.build-requires
build-requires c = record {
  within_limits = subst AreWithinLimits (sym (all c))
      (nodes_alone_within c.args.nodes c.requires.0 c.requires.1);
}

-- they are a network
pub unreachable-requires : goal.unreachable-requires
unreachable-requires c =
    let most = c.loop-i.auto.i-end in
    let past = c.loop-i-test.false in
    let all : c.loop-i.builder ≡ nodes_alone c.args.nodes =
    c.loop-i.invariant ∙ ap (λ (count : ℕ). nodes_alone count) (omega arith) in
    c.in_default.not-NoMemory (memory_lacks c.args.nodes c.in-Err.error
    (subst (λ (rows : List NodeRow). IsRefusal rows c.in-Err.error) all c.in-Err.ensures.refused))
