use Rattle.std.proofs.Common.{◌∙◌, Some, ap, sym}
use Rattle.pls_universal.specs.laws.MapRecoded.{recoded-none, recoded_beside}
use Rattle.pls_universal.proofs.recoding.recode_beside.Goals as goal

pub returns-in_default : goal.returns-in_default
returns-in_default g c =
    sym (recoded-none g.C.NumCode.code g.C.NumCode.takes g.met.C.NumCode.takes_codes
    g.met.C.NumCode.takes_only g.D.NumCode.code c.args.bits.now (sym c.in_default.ensures))

pub number_before_map-requires : goal.number_before_map-requires
number_before_map-requires g c =
    (g.met.C.NumCode.takes_only c.args.bits.now c.in-Some.own c.in-Some.map
    (sym c.in-Some.ensures)).0

pub returns-in_ok-number_before_map-in-Some-parts : goal.returns-in_ok-number_before_map-in-Some-parts
returns-in_ok-number_before_map-in-Some-parts g c =
    let known = c.has_map.ensures c.if-not-has_map.false in
    ap (λ bits. Some bits) c.in_ok-number_before_map-in-Some-parts.ensures
    ∙ sym (recoded_beside g.C.NumCode.code g.C.NumCode.takes g.met.C.NumCode.takes_codes
    g.met.C.NumCode.takes_only g.D.NumCode.code g.D.NumCode.takes g.met.D.NumCode.takes_codes
    c.args.old.now c.args.new.now c.args.bits.now c.in-Some.map c.in-Some-parts.map known.0
    c.in-Some-parts.field-0-0 c.in-Some.own c.requires known.1 (sym c.in-Some-parts.ensures)
    (sym c.in-Some.ensures))
