use Rattle.pls_numbers.specs.laws.FormatLaws.{read_none, read_some}
use Rattle.pls_scheme.proofs.basic.BasicScheme.read_label.Goals as goal

pub returns-clause-some : goal.returns-clause-some
returns-clause-some g c =
    let rules = c.args.self.now.rules in
    read_some (g.R.Format.Format.shape (g.R.Judgement.format rules))
    (g.met.R.Format.Format.numbers_law (g.R.Judgement.format rules)) g.R.Code.NumCode.code
    g.R.Code.NumCode.takes g.met.R.Code.NumCode.takes_codes g.met.R.Code.NumCode.takes_only
    c.args.bits c.read.result (rw c.format.ensures at c.read.ensures)

pub returns-clause-none : goal.returns-clause-none
returns-clause-none g c =
    let rules = c.args.self.now.rules in
    read_none (g.R.Format.Format.shape (g.R.Judgement.format rules))
    (g.met.R.Format.Format.numbers_law (g.R.Judgement.format rules)) g.R.Code.NumCode.code
    g.R.Code.NumCode.takes g.met.R.Code.NumCode.takes_codes g.met.R.Code.NumCode.takes_only
    c.args.bits c.read.result (rw c.format.ensures at c.read.ensures)
