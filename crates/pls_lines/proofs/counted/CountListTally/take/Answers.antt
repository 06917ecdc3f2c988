use Rattle.pls_lines.proofs.ListOfAll.{begun_push}
use Rattle.pls_lines.proofs.counted.CountListTally.take.Goals as goal

pub returns-clause-begun : goal.returns-clause-begun
returns-clause-begun g c = λ front begun counted.
    begun_push g.K.LineKind.Fits front c.args._item.now begun c.requires
