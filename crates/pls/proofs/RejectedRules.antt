-- By which rules the schemes that have names reject.
use Rattle.std.proofs.Common.{◌≤◌, ℕ, ◌+◌, Bool, true, false, List, [], ◌∷◌, length, Option, Some, None, if◌then◌else◌, arith}
use Rattle.pls_configuration.specs.declared.verdict.Verdict.TheVariants.{Reject}
use Rattle.pls_numbers.specs.Shape.{said_by}
use Rattle.pls_labels.specs.Seen.{Seen}
use Rattle.pls_scheme.specs.Judging.{judged_from}
use Rattle.pls_scheme.specs.Reading.{Read, ReadPort, judge_by, judged_read, read_ports}
use Rattle.pls_pointer.specs.Forest.{forest_rules, forest_shape}
use Rattle.pls_pointer.specs.Tree.{tree_rules, tree_shape}
use Rattle.pls_colour.specs.Acyclic.{acyclic_rules, acyclic_shape}
use Rattle.pls_colour.specs.Bipartite.{bipartite_rules, colour_shape}
use Rattle.pls_leader.specs.Leader.{leader_rules, leader_shape}
use Rattle.pls_leader.specs.Count.{count_rules, count_shape}
use Rattle.pls_distance.specs.Spt.{spt_rules, spt_shape}
use Rattle.pls_mst.specs.Labels.{mst_shape}
use Rattle.pls_mst.specs.Rules.{mst_rules}
use Rattle.pls_pathmax.specs.Labels.{pathmax_shape}
use Rattle.pls_pathmax.specs.Rules.{pathmax_rules}
use Rattle.pls_names.specs.Named.{judge_named}
use Rattle.pls_names.specs.declared.scheme_name.SchemeName.{SchemeName}
use Rattle.pls_names.specs.declared.scheme_name.SchemeName.TheVariants.{Acyclic, Bipartite, Count, Forest, Leader, MinimumSpanningTree, PathMax, ShortestPathTree, Tree}
use Rattle.pls.specs.RuleNumbers.{NamesRuleUpTo, last_rule}

-- rules that are counted from one name no rule behind the last
judged-rule : (last number : ℕ) (rules : List Bool) → 1 ≤ number → number + length rules ≤ last + 1
    → NamesRuleUpTo last (judged_from number rules)
judged-rule last number [] some few = tt
judged-rule last number (holds ∷ others) some few =
    by holds (judged-rule last (number + 1) others (omega (arith, some)) (omega (arith, few)))
  where
    by : (b : Bool) → NamesRuleUpTo last (judged_from (number + 1) others)
        → NamesRuleUpTo last (if b then judged_from (number + 1) others else Reject 1 number)
    by true later = later
    by false later = (some, omega (arith, few))

-- rules behind the two of every scheme name none behind the last
judge_by-rule : {L : Type 0} (read : List Bool → Option L) (rules : Read L → List Bool) (last : ℕ)
    → 2 ≤ last → ((view : Read L) → 2 + length (rules view) ≤ last) → (view : Seen)
    → NamesRuleUpTo last (judge_by read rules view)
judge_by-rule {L} read rules last some few view = by (read view.own) (read_ports read view.ports)
  where
    reads : L → List (ReadPort L) → Read L
    reads own ports = record { id = view.id; state = view.state; own = own; ports = ports }

    by : (own : Option L) (ports : Option (List (ReadPort L)))
        → NamesRuleUpTo last (judged_read rules view own ports)
    by None ports = (omega arith, omega (arith, some))
    by (Some own) None = (omega arith, some)
    by (Some own) (Some ports) =
        judged-rule last 3 (rules (reads own ports)) (omega arith) (omega (arith, few (reads own ports)))

-- each named scheme rejects by one of its rules
pub named-rule : (takes : List Bool → Option (ℕ × List Bool)) (name : SchemeName) (view : Seen)
    → NamesRuleUpTo (last_rule name) (judge_named takes name view)
named-rule takes Tree =
    judge_by-rule (said_by tree_shape takes) tree_rules 5 (omega arith) (λ _. omega arith)
named-rule takes Forest =
    judge_by-rule (said_by forest_shape takes) forest_rules 4 (omega arith) (λ _. omega arith)
named-rule takes Bipartite =
    judge_by-rule (said_by colour_shape takes) bipartite_rules 3 (omega arith) (λ _. omega arith)
named-rule takes Acyclic =
    judge_by-rule (said_by acyclic_shape takes) acyclic_rules 4 (omega arith) (λ _. omega arith)
named-rule takes Leader =
    judge_by-rule (said_by leader_shape takes) leader_rules 6 (omega arith) (λ _. omega arith)
named-rule takes Count =
    judge_by-rule (said_by count_shape takes) count_rules 8 (omega arith) (λ _. omega arith)
named-rule takes ShortestPathTree =
    judge_by-rule (said_by spt_shape takes) spt_rules 6 (omega arith) (λ _. omega arith)
named-rule takes MinimumSpanningTree =
    judge_by-rule (said_by mst_shape takes) mst_rules 7 (omega arith) (λ _. omega arith)
named-rule takes PathMax =
    judge_by-rule (said_by pathmax_shape takes) pathmax_rules 6 (omega arith) (λ _. omega arith)
