use Rattle.pls_builtin.proofs.AcyclicAgrees.{acyclic_agrees}
use Rattle.pls_builtin.proofs.BipartiteAgrees.{bipartite_agrees}
use Rattle.pls_builtin.proofs.CountAgrees.{count_agrees}
use Rattle.pls_builtin.proofs.DistanceAgrees.{spt_agrees}
use Rattle.pls_builtin.proofs.LeaderAgrees.{leader_agrees}
use Rattle.pls_builtin.proofs.PointerAgrees.{forest_agrees, tree_agrees}
use Rattle.pls_builtin.proofs.agrees.builtin_agrees.Goals as goal

pub returns-clause-leader : goal.returns-clause-leader
returns-clause-leader c = leader_agrees c.args.view.now c.degree.ensures.pointer

pub returns-clause-tree : goal.returns-clause-tree
returns-clause-tree c = tree_agrees c.args.view.now c.degree.ensures.pointer

pub returns-clause-forest : goal.returns-clause-forest
returns-clause-forest c = forest_agrees c.args.view.now c.degree.ensures.pointer

pub returns-clause-spt : goal.returns-clause-spt
returns-clause-spt c = spt_agrees c.args.view.now c.degree.ensures.pointer

pub returns-clause-bipartite : goal.returns-clause-bipartite
returns-clause-bipartite c = bipartite_agrees c.args.view.now c.degree.ensures.pointer

pub returns-clause-acyclic : goal.returns-clause-acyclic
returns-clause-acyclic c = acyclic_agrees c.args.view.now c.degree.ensures.pointer

pub returns-clause-count : goal.returns-clause-count
returns-clause-count c = count_agrees c.args.view.now c.degree.ensures.pointer
