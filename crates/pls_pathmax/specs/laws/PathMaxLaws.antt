-- The theorem of the scheme `pathmax`.
use Rattle.std.proofs.Common.{◌≡◌, ◌↔◌, ℕ, Bool, true, List, Contains}
use Rattle.pls_bits.specs.NumberCode.{Grows, IsShort}
use Rattle.pls_configuration.specs.declared.row.NodeRow.{NodeRow}
use Rattle.pls_configuration.specs.Configuration.{IsNetwork, ids_of}
use Rattle.pls_configuration.specs.Walk.{IsConnected}
use Rattle.pls_scheme.specs.Reading.{read_where}
use Rattle.pls_scheme.specs.Theorem.{AreRightEverywhere, OneIsRight, RightFits, RulesAreMet, RulesShow}
use Rattle.pls_facts.specs.MinimumSpanningTree.{IsMinimumSpanningTree}
use Rattle.pls_facts.specs.SpanningTree.{IsTree, pointed_edges}
use Rattle.pls_facts.proofs.Pointed.{id_of_row}
use Rattle.pls_levels.specs.laws.RightHeads.{head_within, one_label}
use Rattle.pls_centroid.proofs.Few.{few_of_tree}
use Rattle.pls_centroid.proofs.OneList.{one_list}
use Rattle.pls_pathmax.specs.Labels.{PathMaxLabel, pathmax_shape}
use Rattle.pls_pathmax.specs.PathMax.{PathMaxSays, longest_pathmax}
use Rattle.pls_pathmax.specs.Rules.{other_edges_are_heavy, pathmax_rules}
use Rattle.pls_pathmax.specs.laws.Fits.{label_fits, levels_within}
use Rattle.pls_pathmax.specs.laws.Kept.{KeepsRules, heavy_meets, kept_rules}
use Rattle.pls_pathmax.specs.laws.Passed.{meets_heavy, rules_pass}
use Rattle.pls_pathmax.specs.laws.Met.{KeepsRules-meeting, meets}
use Rattle.pls_pathmax.specs.laws.Sound.{no_tree_is_lighter, pointers_make_a_tree}

-- where the rules hold everywhere in a connected network, the pointers make a spanning tree, and
-- none weighs less
pub pathmax_show : RulesShow pathmax_rules IsMinimumSpanningTree
pathmax_show rows net joined say hold = record {
  tree = pointers_make_a_tree rows net joined say keeps;
  lightest = no_tree_is_lighter rows net joined say keeps;
}
  where
    keeps : (row : NodeRow) → Contains rows row → KeepsRules say row
    keeps row in' = kept_rules say row (hold row in')

-- where what is said is right, the rules hold
pub pathmax_met : RulesAreMet pathmax_rules IsMinimumSpanningTree PathMaxSays
pathmax_met rows net joined holds say right row in' =
    rules_pass say row (KeepsRules-meeting rows net holds.tree say right
    (meets rows net holds.tree say right holds.lightest) row in')

-- one label is right for a node
pub pathmax_one_right : OneIsRight IsMinimumSpanningTree PathMaxSays
pathmax_one_right rows net joined holds row one other in' mine theirs =
    one_label rows net holds.tree row in' one mine.head other theirs.head
    (one_list rows net holds.tree (pointed_edges rows) row.id one.levels other.levels mine.levels
    theirs.levels)

-- what is right can be written, and is short
pub pathmax_fits : (code : ℕ → List Bool) → Grows code → IsShort code
    → RightFits pathmax_shape code IsMinimumSpanningTree PathMaxSays (longest_pathmax code)
pathmax_fits code grows short rows net joined holds words say right row in' =
    let is : PathMaxSays rows row (say row.id) = right row in' in
    let known : Contains (ids_of rows) row.id = id_of_row rows row in' in
    let head = head_within rows net holds.tree row in' (say row.id) is.head in
    label_fits rows net words code grows short (say row.id)
    (few_of_tree rows row.id known (pointed_edges rows) (say row.id).levels is.levels)
    head.0 head.1 head.2 head.3
    (levels_within rows net words (pointed_edges rows) row.id known (say row.id).levels is.levels)

-- of a tree whose labels are right: no spanning tree is lighter exactly where rule 6 holds at every
-- node
pub decided_by_ports : (rows : List NodeRow) → IsNetwork rows → IsConnected rows → IsTree rows
    → (say : ℕ → PathMaxLabel) → AreRightEverywhere (PathMaxSays rows) rows say
    → ((row : NodeRow) → Contains rows row → other_edges_are_heavy (read_where say row) ≡ true)
    ↔ IsMinimumSpanningTree rows
decided_by_ports rows net joined is_tree say right = (
  λ heavy. record {
    tree = is_tree;
    lightest = no_tree_is_lighter rows net joined say
        (KeepsRules-meeting rows net is_tree say right
        (λ row place port in'. heavy_meets say row (heavy row in') place port));
  },
  λ holds row in'. meets_heavy say row
      (λ place port. meets rows net is_tree say right holds.lightest row place port in'),
)
