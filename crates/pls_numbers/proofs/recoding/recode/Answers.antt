use Rattle.std.proofs.Common.{◌∙◌, sym}
use Rattle.pls_numbers.specs.laws.FormatLaws.{can_be_written, said_spells}
use Rattle.pls_numbers.proofs.recoding.recode.Goals as goal

pub append-requires : goal.append-requires
append-requires g c =
    let shape = g.F.Format.shape c.args.format.now in
    can_be_written shape g.C.NumCode.code c.args.bits.now c.in-Some.label
    ((said_spells shape (g.met.F.Format.numbers_law c.args.format.now) g.C.NumCode.code
    g.C.NumCode.takes g.met.C.NumCode.takes_codes g.met.C.NumCode.takes_only c.args.bits.now
    c.in-Some.label).0 (sym c.in_ok-label.ensures ∙ c.in-Some.is))
