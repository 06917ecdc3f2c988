use Rattle.pls_colour.proofs.Found.{levels_right}
use Rattle.pls_colour.proofs.level_labels.level_labels.Goals as goal

pub returns : goal.returns
returns g c =
    rw (c.in_ok-labels.ensures, c.deref.ensures.value)
    (levels_right g.R.SaysLevels.level_label c.args.net.now c.requires c.in_ok-levels.levels.items
    c.in_ok-levels.ensures)
