use Rattle.std.proofs.Common.{◌∙◌, ◌-◌, ◌<◌, Bool, List, Option, arith, sym}
use Rattle.pls_combine.specs.Converted.{converted}
use Rattle.pls_combine.proofs.ConvertedLabels.{made_before}
use Rattle.pls_combine.proofs.any_scheme.AnyScheme.convert_at.Goals as goal

pub recode_beside-requires : goal.recode_beside-requires
recode_beside-requires g c =
    let takes = g.C.NumCode.takes in
    let code = g.D.NumCode.code in
    let to : List Bool → Option (List Bool) = converted takes code c.args.self.now in
    let below : c.args.place - 1 < c.args.place = omega (arith, c.if-place-eq0.false) in
    sym (c.is_map.ensures c.if-not-is_map.false takes code c.bits-old.result)
    ∙ made_before to c.args.labels.now c.args.into.now c.args.place (c.args.place - 1)
    c.bits-old.result c.bits-new.result below c.requires.read c.requires.made c.bits-old.ensures
    c.bits-new.ensures
