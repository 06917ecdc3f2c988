use Rattle.std.proofs.Common.{◌∙◌, ap}
use Rattle.pls_numbers.specs.Shape.{if_clean}
use Rattle.pls_levels.specs.Labels.{level_label_of}
use Rattle.pls_levels.proofs.Labels.{head_left}
use Rattle.pls_pathmax.specs.Labels.{pathmax_levels}
use Rattle.pls_pathmax.specs.laws.LabelLaws.{exact_levels}
use Rattle.pls_pathmax.proofs.pathmax.head_of.Goals as goal

pub returns : goal.returns
returns g c label is =
    (head_left pathmax_levels exact_levels c.of-numbers.result c.read_head.new.numbers
    c.read_head.result c.read_head.ensures.found c.read_head.ensures.none label
    (ap (if_clean (level_label_of pathmax_levels)) c.of-numbers.ensures ∙ is)).0
