-- What a node judges by what stands in front of the levels of labels: that it stands in the tree of
-- pointers, and which edges at its ports are in it.
use Rattle.std.specs.Prelude.{ℕ, ◌+◌, ◌==◌, Bool, true, ◌&&◌, ◌||◌, Option}
use Rattle.std.specs.Option.{option_map_or}
use Rattle.pls_scheme.specs.Reading.{Read, ReadPort, is_pointer, target}
use Rattle.pls_pointer.specs.Pointing.{points}
use Rattle.pls_levels.specs.declared.label.LevelLabel.{LevelLabel}

-- the node points at no port, or it is one deeper than the node that it points at, which is its
-- parent
abbrev pub follows_target : {S : Type 0} → Read (LevelLabel S) → Bool
follows_target view = option_map_or (λ port. view.own.depth == port.label.depth + 1
    && view.own.parent == port.label.own) (target view) true

-- the label says of the node that it is the root, at depth 0, and its own parent
abbrev pub is_root_of_tree : {S : Type 0} → Read (LevelLabel S) → Bool
is_root_of_tree view =
    view.own.depth == 0 && (view.own.root == view.id && view.own.parent == view.own.own)

-- the label names the node, and the node is the root or follows the node that it points at
abbrev pub is_placed_in_tree : {S : Type 0} → Read (LevelLabel S) → Bool
is_placed_in_tree view =
    view.own.own == view.id && ((points view || is_root_of_tree view) && follows_target view)

-- the edge at the port of this number is in the tree: the port is the pointer, or the neighbour's
-- parent is the node
abbrev pub is_in_tree : {S : Type 0} → Option ℕ → LevelLabel S → ℕ → ReadPort (LevelLabel S)
    → Bool
is_in_tree up own number port = is_pointer up number || port.label.parent == own.own
