-- The sets by the names of the schemes as which they judge.
use Rattle.std.proofs.Common.{◌≡◌, ◌∙◌, ℕ, Bool, List, length, Option, Some, sym, ap}
use Rattle.std.proofs.lemmas.Option.{same_Some}
use Rattle.pls_labels.specs.Seen.{Seen}
use Rattle.pls_names.specs.declared.scheme_name.SchemeName.{SchemeName}
use Rattle.pls_names.specs.declared.scheme_name.SchemeName.TheVariants.{Acyclic, Bipartite, Count, Forest, Leader, MinimumSpanningTree, PathMax, ShortestPathTree, Tree}
use Rattle.pls_names.specs.Named.{judge_named}
use Rattle.pls_rules.specs.RuleSet.{Rules}
use Rattle.pls_compile.specs.RuleMeaning.{meaning}
use Rattle.pls_builtin.specs.Builtin.{acyclic_set, bipartite_set, count_set, forest_set, leader_set, spt_set, tree_set}
use Rattle.pls_builtin.specs.Judges.{JudgesAsNamed}
use Rattle.pls_builtin.proofs.AcyclicAgrees.{acyclic_agrees}
use Rattle.pls_builtin.proofs.Agreeing.{PointsWithin}
use Rattle.pls_builtin.proofs.BipartiteAgrees.{bipartite_agrees}
use Rattle.pls_builtin.proofs.CountAgrees.{count_agrees}
use Rattle.pls_builtin.proofs.DistanceAgrees.{spt_agrees}
use Rattle.pls_builtin.proofs.LeaderAgrees.{leader_agrees}
use Rattle.pls_builtin.proofs.PointerAgrees.{forest_agrees, tree_agrees}

-- a set that judges as a scheme is the set of its name
by_set : (name : SchemeName) (own : Rules) (view : Seen)
    → ((takes : List Bool → Option (ℕ × List Bool)) → meaning takes own view ≡ judge_named takes name view)
    → (set : Rules) → Some own ≡ Some set → (takes : List Bool → Option (ℕ × List Bool))
    → meaning takes set view ≡ judge_named takes name view
by_set name own view agrees set is takes =
    ap (λ (set : Rules). meaning takes set view) (sym (same_Some own set is)) ∙ agrees takes

pub named_agrees : (name : SchemeName) (view : Seen)
    → PointsWithin view.state.up (length view.ports) → JudgesAsNamed name view
named_agrees Leader view within = by_set Leader leader_set view (leader_agrees view within)
named_agrees Tree view within = by_set Tree tree_set view (tree_agrees view within)
named_agrees Forest view within = by_set Forest forest_set view (forest_agrees view within)
named_agrees ShortestPathTree view within =
    by_set ShortestPathTree spt_set view (spt_agrees view within)
named_agrees Bipartite view within =
    by_set Bipartite bipartite_set view (bipartite_agrees view within)
named_agrees Acyclic view within = by_set Acyclic acyclic_set view (acyclic_agrees view within)
named_agrees Count view within = by_set Count count_set view (count_agrees view within)
named_agrees MinimumSpanningTree view within = λ set is. absurd (cc)
named_agrees PathMax view within = λ set is. absurd (cc)
