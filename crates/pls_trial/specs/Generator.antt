-- Networks made from a number: a tree by random links to earlier nodes, and random links besides
-- that are no lighter than its edges. The draws are those of Park and Miller, "Random number
-- generators: good ones are hard to find", Communications of the ACM 31 (1988), with the multiplier
-- 48271.
use Rattle.std.specs.Prelude.{ℕ, zero, suc, ◌+◌, ◌-◌, ◌*◌, ◌%◌, ◌==◌, ◌||◌, List, ◌++◌, map, fold, Some, if◌then◌else◌}
use Rattle.std.specs.List.{range_with_len}
use Rattle.pls_configuration.specs.declared.row.State.{State}
use Rattle.pls_configuration.specs.declared.row.NodeRow.{NodeRow}
use Rattle.pls_graph_edits.specs.Edits.{lone_node, are_linked, in_state, linked}

-- the number behind another
abbrev pub next : ℕ → ℕ
next number = number * 48271 % 2147483647

-- the number after so many draws, where this one was the last before them
abbrev pub draw : ℕ → ℕ → ℕ
draw number zero = number
draw number (suc count) = next (draw number count)

-- an edge that is to be
pub record Link : Type 0 where
  pub a : ℕ
  pub b : ℕ
  pub weight : ℕ

-- node i + 2 is linked to a node before it, by two draws from a number on
abbrev pub tree_link : ℕ → ℕ → Link
tree_link i number = record {
  a = i + 2;
  b = draw number 1 % (i + 1) + 1;
  weight = draw number 2 % 1000;
}

-- two of so many nodes are linked, by three draws from a number on
abbrev pub other_link : ℕ → ℕ → Link
other_link nodes number = record {
  a = draw number 1 % nodes + 1;
  b = draw number 2 % nodes + 1;
  weight = 999 + draw number 3 % 1000;
}

-- the links of the tree, for so many nodes behind the first, each by the next two draws
abbrev pub tree_links : ℕ → ℕ → List Link
tree_links count seed =
    map (λ i. tree_link i (draw seed (2 * i))) (range_with_len 0 count)

-- so many links besides those of the tree, each by the next three draws
abbrev pub other_links : ℕ → ℕ → ℕ → List Link
other_links nodes count number =
    map (λ k. other_link nodes (draw number (3 * k))) (range_with_len 0 count)

-- all links, in the order in which they are put
abbrev pub links_of : ℕ → ℕ → List Link
links_of nodes seed =
    tree_links (nodes - 1) seed ++ other_links nodes nodes (draw seed (2 * (nodes - 1)))

-- the rows with a new last port at both ends of a link, if these differ and are not linked yet
abbrev pub with_link : List NodeRow → Link → List NodeRow
with_link rows link =
    if link.a == link.b || are_linked rows link.a link.b then rows
    else linked rows link.a link.b link.weight

-- the nodes from 1 on, without ports
abbrev pub nodes_alone : ℕ → List NodeRow
nodes_alone nodes = map (λ id. lone_node id 0 0) (range_with_len 1 nodes)

-- the state of a node that points at its port 0
abbrev pub at_port_0 : State
at_port_0 = record { up = Some 0; mark = 0; num = 0 }

-- each node but the first points at its port 0
abbrev pub pointing : NodeRow → NodeRow
pointing row = if row.id == 1 then row else in_state at_port_0 row

-- the network of so many nodes that is made from a seed
abbrev pub trial_of : ℕ → ℕ → List NodeRow
trial_of nodes seed = map pointing (fold with_link (nodes_alone nodes) (links_of nodes seed))
