use Rattle.std.proofs.Common.{◌∙◌, ap}
use Rattle.pls_numbers.specs.Shape.{if_clean}
use Rattle.pls_levels.specs.Labels.{level_label_of}
use Rattle.pls_levels.proofs.Labels.{head_left}
use Rattle.pls_levels.proofs.reading.levels_of.Goals as goal

pub returns : goal.returns
returns g c label is =
    (head_left g.K.LevelKind.form g.met.K.LevelKind.form_law c.of-numbers.result
    c.read_head.new.numbers c.read_head.result c.read_head.ensures.found c.read_head.ensures.none
    label (ap (if_clean (level_label_of g.K.LevelKind.form)) c.of-numbers.ensures ∙ is)).1
