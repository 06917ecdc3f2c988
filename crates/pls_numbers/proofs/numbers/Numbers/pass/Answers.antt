use Rattle.std.proofs.Common.{◌∙◌}
use Rattle.pls_numbers.specs.laws.LeftLaws.{passed}
use Rattle.pls_numbers.proofs.numbers.Numbers.pass.Goals as goal

pub returns : goal.returns
returns g c left is =
    passed g.C.NumCode.code g.C.NumCode.takes g.met.C.NumCode.takes_codes
    g.met.C.NumCode.takes_only c.take.result c.self.inside.cursor c.take.new.self c.args.number
    c.length.result left (rw c.min.ensures at c.length.ensures) c.take.ensures.short.0
    c.take.ensures.past (c.self.view_is ∙ is)
