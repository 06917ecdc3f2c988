use Rattle.pls_numbers.specs.laws.FormatLaws.{read_none, read_some}
use Rattle.pls_pathmax.specs.Labels.{pathmax_shape}
use Rattle.pls_pathmax.specs.laws.LabelLaws.{pathmax_numbers}
use Rattle.pls_pathmax.proofs.scheme.PathMaxScheme.read_label.Goals as goal

pub returns-clause-some : goal.returns-clause-some
returns-clause-some g c =
    read_some pathmax_shape pathmax_numbers g.C.NumCode.code g.C.NumCode.takes
    g.met.C.NumCode.takes_codes g.met.C.NumCode.takes_only c.args.bits c.read.result c.read.ensures

pub returns-clause-none : goal.returns-clause-none
returns-clause-none g c =
    read_none pathmax_shape pathmax_numbers g.C.NumCode.code g.C.NumCode.takes
    g.met.C.NumCode.takes_codes g.met.C.NumCode.takes_only c.args.bits c.read.result c.read.ensures
