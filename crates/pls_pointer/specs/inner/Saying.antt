-- Labels by what they say.
use Rattle.std.specs.Prelude.{ℕ}
use Rattle.pls_pointer.specs.declared.tree.TreeLabel.{TreeLabel}
use Rattle.pls_pointer.specs.declared.forest.ForestLabel.{ForestLabel}

-- the label of a root and a depth
abbrev pub root_says : ℕ → ℕ → TreeLabel
root_says root depth = record { root = root; depth = depth }

-- the label of a depth
abbrev pub forest_label_at : ℕ → ForestLabel
forest_label_at depth = record { depth = depth }
