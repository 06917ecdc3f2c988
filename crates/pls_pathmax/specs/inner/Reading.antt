-- What a label says in front of its levels, and the levels that are left of one.
use Rattle.std.specs.Prelude.{List}
use Rattle.pls_numbers.specs.Numbers.{NumbersLeft}
use Rattle.pls_centroid.specs.declared.level.CentroidLevel.{CentroidLevel}
use Rattle.pls_levels.specs.declared.label.LevelHead.{LevelHead}
use Rattle.pls_levels.specs.Labels.{AreLevelsLeft, head_of}
use Rattle.pls_pathmax.specs.Labels.{PathMaxLabel, pathmax_levels}

-- what stands in a label in front of its levels
abbrev pub head_said : PathMaxLabel → LevelHead
head_said label = head_of pathmax_levels label

-- these levels are left, and no number behind them
abbrev pub AreLeft : NumbersLeft → List CentroidLevel → Type 0
AreLeft left levels = AreLevelsLeft pathmax_levels left levels
