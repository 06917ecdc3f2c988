-- What a node judges by labels of the scheme `pathmax`: on each level it is the centroid of its
-- piece, or an edge of the tree leads on to it, and no edge on the way is heavier than the greatest
-- weight there; and no other edge is lighter than the greatest weights on the ways from its two
-- ends to one centroid (Katz, Katz, Korman and Peleg 2004, "Labeling schemes for flow and
-- connectivity").
use Rattle.std.specs.Prelude.{ℕ, ◌+◌, ◌==◌, nat_le, Bool, false, ◌&&◌, ◌||◌, List, [], ◌∷◌, slice_get}
use Rattle.std.specs.List.{enumerate_from, list_all, list_any, zip}
use Rattle.std.specs.Option.{option_map_or}
use Rattle.pls_scheme.specs.Reading.{Read, ReadPort, agrees_on}
use Rattle.pls_centroid.specs.declared.level.CentroidLevel.{CentroidLevel}
use Rattle.pls_levels.specs.Rules.{is_in_tree, is_placed_in_tree}
use Rattle.pls_pathmax.specs.Labels.{PathMaxLabel}

-- rule 4: every neighbour names the own root
abbrev pub agrees_on_root : Read PathMaxLabel → Bool
agrees_on_root view = agrees_on (λ label. label.root) view

-- what the neighbour has on a level leads on from what the node has: it has the same centroid, one
-- hop nearer, and neither its greatest weight nor the edge to it is above the own greatest
abbrev pub leads_on : CentroidLevel → ℕ → CentroidLevel → Bool
leads_on mine weight theirs = theirs.centroid == mine.centroid && (mine.hops == theirs.hops + 1
    && (nat_le theirs.greatest mine.greatest && nat_le weight mine.greatest))

-- the edge at the port of this number is in the tree, and its neighbour has the level of this
-- number, which leads on
abbrev pub leads_on_at : Read PathMaxLabel → ℕ → CentroidLevel → ℕ → ReadPort PathMaxLabel → Bool
leads_on_at view level mine number port = is_in_tree view.state.up view.own number port
    && option_map_or (leads_on mine port.weight) (slice_get port.label.levels level) false

-- on the level of this number the node is the centroid, without a hop, or some port leads on
abbrev pub has_way : Read PathMaxLabel → ℕ → CentroidLevel → Bool
has_way view level mine = (mine.hops == 0 && mine.centroid == view.own.own)
    || list_any (λ (numbered : ℕ × ReadPort PathMaxLabel).
    leads_on_at view level mine numbered.0 numbered.1) (enumerate_from 0 view.ports)

-- rule 5: on each level the node is the centroid, without a hop, or some port leads on
abbrev pub has_ways_to_centroids : Read PathMaxLabel → Bool
has_ways_to_centroids view = list_all (λ (numbered : ℕ × CentroidLevel).
    has_way view numbered.0 numbered.1) (enumerate_from 0 view.own.levels)

-- the two nodes have one centroid, and neither greatest weight is above this one
abbrev pub meet_lightly : ℕ → CentroidLevel → CentroidLevel → Bool
meet_lightly weight mine theirs = mine.centroid == theirs.centroid
    && (nat_le mine.greatest weight && nat_le theirs.greatest weight)

-- the port of this number is in the tree, or on some level that both nodes have they meet lightly
abbrev pub is_heavy_outside : Read PathMaxLabel → ℕ → ReadPort PathMaxLabel → Bool
is_heavy_outside view number port = is_in_tree view.state.up view.own number port
    || list_any (λ (both : CentroidLevel × CentroidLevel). meet_lightly port.weight both.0 both.1)
    (zip view.own.levels port.label.levels)

-- rule 6: the edge at each port is in the tree, or on some level its ends have one centroid, and
-- neither greatest weight is above the edge's
abbrev pub other_edges_are_heavy : Read PathMaxLabel → Bool
other_edges_are_heavy view = list_all (λ (numbered : ℕ × ReadPort PathMaxLabel).
    is_heavy_outside view numbered.0 numbered.1) (enumerate_from 0 view.ports)

-- the rules from 3 on, of which rule 3 is that the label places the node in the tree
abbrev pub pathmax_rules : Read PathMaxLabel → List Bool
pathmax_rules view = is_placed_in_tree view ∷ agrees_on_root view ∷ has_ways_to_centroids view
    ∷ other_edges_are_heavy view ∷ []
