-- How many rules schemes have.
use Rattle.std.specs.Prelude.{ℕ, ◌≤◌}
use Rattle.pls_configuration.specs.declared.verdict.Verdict.{Verdict}
use Rattle.pls_configuration.specs.declared.verdict.Verdict.TheVariants.{Accept, Reject}
use Rattle.pls_names.specs.declared.scheme_name.SchemeName.{SchemeName}
use Rattle.pls_names.specs.declared.scheme_name.SchemeName.TheVariants.{Tree, Forest, Bipartite, Acyclic, Leader, Count, ShortestPathTree, MinimumSpanningTree, PathMax}

-- the number of the last rule of a scheme
abbrev pub last_rule : SchemeName → ℕ
last_rule Tree = 5
last_rule Forest = 4
last_rule Bipartite = 3
last_rule Acyclic = 4
last_rule Leader = 6
last_rule Count = 8
last_rule ShortestPathTree = 6
last_rule MinimumSpanningTree = 7
last_rule PathMax = 6

-- the number of the last rule of the universal scheme
abbrev pub last_map_rule : ℕ
last_map_rule = 7

-- a rejection names a rule from the first to this one
abbrev pub NamesRuleUpTo : ℕ → Verdict → Type 0
NamesRuleUpTo last Accept = Unit {0}
NamesRuleUpTo last (Reject leaf rule) = (1 ≤ rule) × (rule ≤ last)
