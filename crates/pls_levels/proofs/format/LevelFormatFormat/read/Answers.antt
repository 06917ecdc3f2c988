use Rattle.std.proofs.Common.{◌∙◌}
use Rattle.pls_numbers.specs.Shape.{said_by}
use Rattle.pls_levels.specs.Labels.{level_shape}
use Rattle.pls_levels.proofs.Labels.{label_made}
use Rattle.pls_levels.proofs.format.LevelFormatFormat.read.Goals as goal

pub returns : goal.returns
returns g c =
    label_made g.K.LevelKind.form g.met.K.LevelKind.form_law
    (said_by (level_shape g.K.LevelKind.form) g.C.NumCode.takes c.args.bits.now) c.in-Some.head
    c.levels_of-numbers.result c.list_of.result c.in-Some.ensures c.levels_of-numbers.ensures
    (c.list_of.ensures ∙ c.in_ok-levels.ensures)
