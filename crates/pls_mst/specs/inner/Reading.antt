-- What a label says in front of its levels.
use Rattle.pls_levels.specs.declared.label.LevelHead.{LevelHead}
use Rattle.pls_levels.specs.Labels.{head_of}
use Rattle.pls_mst.specs.Labels.{MstLabel, mst_levels}

-- what stands in a label in front of its levels
abbrev pub head_said : MstLabel → LevelHead
head_said label = head_of mst_levels label
