use Rattle.pls_numbers.specs.laws.FormatLaws.{read_none, read_some}
use Rattle.pls_universal.specs.Reading.{map_shape}
use Rattle.pls_universal.specs.laws.MapLaws.{map_numbers}
use Rattle.pls_universal.proofs.map_of.MapOfScheme.read_label.Goals as goal

pub returns-clause-some : goal.returns-clause-some
returns-clause-some g c =
    read_some map_shape map_numbers g.C.NumCode.code g.C.NumCode.takes
    g.met.C.NumCode.takes_codes g.met.C.NumCode.takes_only c.args.bits c.read.result
    c.read.ensures

pub returns-clause-none : goal.returns-clause-none
returns-clause-none g c =
    read_none map_shape map_numbers g.C.NumCode.code g.C.NumCode.takes
    g.met.C.NumCode.takes_codes g.met.C.NumCode.takes_only c.args.bits c.read.result
    c.read.ensures
