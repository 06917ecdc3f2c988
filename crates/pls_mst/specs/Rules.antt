-- What a node judges by labels of the scheme `mst` (Korman and Kutten 2007, "Distributed
-- verification of minimum spanning trees", with the levels of Borůvka's method): on each level it
-- belongs to a fragment that lies together, and its fragment has chosen the least edge that leaves
-- it. Each edge that a node points along was chosen by the fragment of one of its ends.
use Rattle.std.specs.Prelude.{ℕ, ◌==◌, nat_lt, min, max, Bool, true, false, not, ◌&&◌, ◌||◌, if◌then◌else◌, List, [], ◌∷◌, length, Option}
use Rattle.std.specs.List.{enumerate_from, list_all, list_any, zip}
use Rattle.std.specs.Option.{option_map_or}
use Rattle.pls_configuration.specs.Walk.{Edge}
use Rattle.pls_scheme.specs.Reading.{Read, ReadPort, target}
use Rattle.pls_facts.specs.EdgeOrder.{edge_key, is_same_edge}
use Rattle.pls_pointer.specs.Pointing.{points}
use Rattle.pls_boruvka.specs.Boruvka.{chosen_edge}
use Rattle.pls_boruvka.specs.declared.level.Level.{Level}
use Rattle.pls_levels.specs.Rules.{is_in_tree, is_placed_in_tree}
use Rattle.pls_mst.specs.Labels.{MstLabel}

-- the neighbour names the own root, and has as many levels
abbrev pub names_root_and_levels : MstLabel → ReadPort MstLabel → Bool
names_root_and_levels own port =
    port.label.root == own.root && length port.label.levels == length own.levels

-- rule 4: every neighbour names the own root, and has as many levels
abbrev pub agrees_on_root_and_levels : Read MstLabel → Bool
agrees_on_root_and_levels view = list_all (names_root_and_levels view.own) view.ports

-- the test holds on each level, of what the one node has there and what the other has
abbrev pub on_each_level : (Level → Level → Bool) → List Level → List Level → Bool
on_each_level test mine theirs =
    list_all (λ (both : Level × Level). test both.0 both.1) (zip mine theirs)

-- the test holds on some level, of what the one node has there and what the other has
abbrev pub on_some_level : (Level → Level → Bool) → List Level → List Level → Bool
on_some_level test mine theirs =
    list_any (λ (both : Level × Level). test both.0 both.1) (zip mine theirs)

-- the two nodes are in one fragment
abbrev pub is_one_fragment : Level → Level → Bool
is_one_fragment mine theirs = mine.fragment == theirs.fragment

-- the fragment has the node's name, or the other node is in it too
abbrev pub is_named_or_shared : ℕ → Level → Level → Bool
is_named_or_shared own mine theirs = mine.fragment == own || is_one_fragment mine theirs

-- the node points at no port, or each fragment that has not its name is that of the node that it
-- points at
abbrev pub shares_with_target : Read MstLabel → Bool
shares_with_target view = option_map_or (λ port.
    on_each_level (is_named_or_shared view.own.own) view.own.levels port.label.levels)
    (target view) true

-- each fragment has the node's name
abbrev pub names_all_fragments : MstLabel → Bool
names_all_fragments own = list_all (λ level. level.fragment == own.own) own.levels

-- rule 5: each fragment has the node's name, or is that of the node that it points at
abbrev pub names_its_fragment : Read MstLabel → Bool
names_its_fragment view =
    (points view || names_all_fragments view.own) && shares_with_target view

-- the edge at a port, by the names that the labels of its ends have for them
abbrev pub edge_to : MstLabel → ReadPort MstLabel → Edge
edge_to own port = record {
  a = min own.own port.label.own;
  b = max own.own port.label.own;
  weight = port.weight;
}

-- 0 where the edge at the port of this number is in the tree, else 1
abbrev pub outside_tree : Option ℕ → MstLabel → ℕ → ReadPort MstLabel → ℕ
outside_tree up own number port = if is_in_tree up own number port then 0 else 1

-- the list is the other, or comes before it as a word in a dictionary
abbrev pub is_at_most : List ℕ → List ℕ → Bool
is_at_most [] others = true
is_at_most (one ∷ more) [] = false
is_at_most (one ∷ more) (other ∷ others) =
    nat_lt one other || (one == other && is_at_most more others)

-- of two nodes in one fragment the chosen edges are the same; else the own one does not come behind
-- the edge between them
abbrev pub chose_least : Edge → ℕ → Level → Level → Bool
chose_least between outside mine theirs =
    if is_one_fragment mine theirs then is_same_edge (chosen_edge mine) (chosen_edge theirs)
    else is_at_most (edge_key (chosen_edge mine) 0) (edge_key between outside)

-- on each level the chosen edges are least, towards the port of this number
abbrev pub chose_least_at : Read MstLabel → ℕ → ReadPort MstLabel → Bool
chose_least_at view number port = on_each_level
    (chose_least (edge_to view.own port) (outside_tree view.state.up view.own number port))
    view.own.levels port.label.levels

-- rule 6: on each level the chosen edges are least, towards each port
abbrev pub chosen_edges_are_least : Read MstLabel → Bool
chosen_edges_are_least view =
    list_all (λ (numbered : ℕ × ReadPort MstLabel). chose_least_at view numbered.0 numbered.1)
    (enumerate_from 0 view.ports)

-- the two nodes are in two fragments, one of which chose the edge between them
abbrev pub is_chosen_between : Edge → Level → Level → Bool
is_chosen_between between mine theirs = not (is_one_fragment mine theirs)
    && (is_same_edge (chosen_edge mine) between || is_same_edge (chosen_edge theirs) between)

-- rule 7: the node points at no port, or on some level the edge to the node that it points at
-- leaves the fragment of one of the two, which chose it
abbrev pub pointed_edge_is_chosen : Read MstLabel → Bool
pointed_edge_is_chosen view = option_map_or (λ port.
    on_some_level (is_chosen_between (edge_to view.own port)) view.own.levels port.label.levels)
    (target view) true

-- the rules from 3 on, of which rule 3 is that the label places the node in the tree
abbrev pub mst_rules : Read MstLabel → List Bool
mst_rules view =
    is_placed_in_tree view ∷ agrees_on_root_and_levels view ∷ names_its_fragment view
    ∷ chosen_edges_are_least view ∷ pointed_edge_is_chosen view ∷ []
