-- Trees of pointers whose edges weigh least together (any textbook on graphs).
use Rattle.std.specs.Prelude.{List}
use Rattle.pls_configuration.specs.declared.row.NodeRow.{NodeRow}
use Rattle.pls_configuration.specs.Configuration.{ids_of}
use Rattle.pls_configuration.specs.Walk.{edges_of}
use Rattle.pls_facts.specs.SpanningTree.{IsTree, pointed_edges}
use Rattle.pls_facts.specs.Lightest.{IsLightest}

-- the pointers make a tree, and no spanning tree weighs less than the edges that they point along
pub record IsMinimumSpanningTree (rows : List NodeRow) : Type 0 where
  pub tree : IsTree rows
  pub lightest : IsLightest (edges_of rows) (pointed_edges rows) (ids_of rows)
