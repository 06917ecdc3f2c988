-- The definitions that clauses over this library cite, those of the crates below under one name.
pub mod Certificate
pub mod Rows
pub mod RuleNumbers
pub mod inner
-- networks
pub use Rattle.pls_configuration.specs.Configuration
pub use Rattle.pls_configuration.specs.WalkBy
pub use Rattle.pls_configuration.specs.Walk
pub use Rattle.pls_configuration.specs.declared.limits
pub use Rattle.pls_configuration.specs.declared.refusal.BuildError
pub use Rattle.pls_configuration.specs.declared.row.NodeRow
pub use Rattle.pls_configuration.specs.declared.row.Port
pub use Rattle.pls_configuration.specs.declared.row.State
pub use Rattle.pls_graph.specs.Build
pub use Rattle.pls_graph.specs.Connected
pub use Rattle.pls_graph.specs.Levels
pub use Rattle.pls_graph.specs.Rows as BuilderRows
pub use Rattle.pls_graph.specs.Size
-- properties
pub use Rattle.pls_facts.specs.Bipartite
pub use Rattle.pls_facts.specs.Cycle
pub use Rattle.pls_facts.specs.Leader
pub use Rattle.pls_facts.specs.Lightest
pub use Rattle.pls_facts.specs.MinimumSpanningTree
pub use Rattle.pls_facts.specs.NodeCount
pub use Rattle.pls_facts.specs.Pointer
pub use Rattle.pls_facts.specs.ShortestPath
pub use Rattle.pls_facts.specs.SpanningTree
pub use Rattle.pls_facts.specs.Weight
pub use Rattle.pls_pointer.specs.Forest
pub use Rattle.pls_diameter_bridges.specs.Bridgeless
pub use Rattle.pls_diameter_bridges.specs.Diameter
-- labels, and what a node sees
pub use Rattle.pls_bits.specs.Delta
pub use Rattle.pls_bits.specs.Gamma
pub use Rattle.pls_numbers.specs.Numbers
pub use Rattle.pls_numbers.specs.Shape
pub use Rattle.pls_labels.specs.Labels
pub use Rattle.pls_labels.specs.Seen
-- verdicts and schemes
pub use Rattle.pls_streams.specs.Steps
pub use Rattle.pls_configuration.specs.declared.verdict.Verdict
pub use Rattle.pls_names.specs.Named
pub use Rattle.pls_names.specs.declared.scheme_name.SchemeName
pub use Rattle.pls_scheme.specs.Judging
pub use Rattle.pls_scheme.specs.Scheme
pub use Rattle.pls_scheme.specs.SchemeLaws
pub use Rattle.pls_scheme.specs.Spelled
pub use Rattle.pls_combine.specs.Expression as ExpressionScheme
pub use Rattle.pls_expressions.specs.Expression
pub use Rattle.pls_expressions.specs.Held
-- networks that are edited
pub use Rattle.pls_edits.specs.Edited
pub use Rattle.pls_edits.specs.declared.edit.Edit
pub use Rattle.pls_graph_edits.specs.Edits
pub use Rattle.pls_recheck.specs.After
pub use Rattle.pls_recheck.specs.Rechecked
pub use Rattle.pls_recheck.specs.Snapshot
-- rounds of messages
pub use Rattle.pls_schedule.specs.declared.event.Event
pub use Rattle.pls_sim.specs.Applying
pub use Rattle.pls_sim.specs.Arriving
pub use Rattle.pls_sim.specs.Schedule
pub use Rattle.pls_watch.specs.Labelled
pub use Rattle.pls_watch.specs.Versions
pub use Rattle.pls_watch.specs.Watching
pub use Rattle.pls_watch_part.specs.declared.boxed_label.BoxedLabel
pub use Rattle.pls_watch_part.specs.declared.watch_event.WatchEvent
-- rule sets
pub use Rattle.pls_compile.specs.RuleMeaning
pub use Rattle.pls_rules.specs.Formula
pub use Rattle.pls_rules.specs.HeldTrees
pub use Rattle.pls_rules.specs.RuleSet
pub use Rattle.pls_rules_part.specs.Refusal
pub use Rattle.pls_rules_part.specs.RulesText
