use Rattle.std.proofs.Common.{[], ◌∙◌, ◌++◌, ℕ, List, Bool, take, sym, subst, ap}
use Rattle.std.specs.List.{flat_map}
use Rattle.pls_numbers.specs.Numbers.{AreCoded, codes_of}
use Rattle.pls_numbers.specs.laws.CodeLaws.{coded_item, codes_of-item}
use Rattle.pls_universal.specs.declared.map.MapRow.{MapRow}
use Rattle.pls_universal.specs.Map.{numbers_of_row}
use Rattle.pls_universal.proofs.writing.append_rows.Goals as goal

pub append_row-requires : goal.append_row-requires
append_row-requires g c =
    subst (λ (row : MapRow). AreCoded [] (numbers_of_row row)) (sym c.row-item.is)
    (coded_item numbers_of_row c.args.rows.now c.loop-row.row-index c.row-item.result
    c.loop-row-test.true c.requires)

pub loop-row-preserved : goal.loop-row-preserved
loop-row-preserved g c =
    let code : ℕ → List Bool = g.C.NumCode.code in
    c.in_ok-append_row.ensures
    ∙ ap (λ (bits : List Bool). bits ++ codes_of code [] (numbers_of_row c.row-item.result))
    c.loop-row.invariant
    ∙ ap (λ (row : MapRow). (c.args.bits.now ++ codes_of code [] (flat_map numbers_of_row
    (take c.loop-row.row-index c.args.rows.now))) ++ codes_of code [] (numbers_of_row row))
    c.row-item.is
    ∙ codes_of-item numbers_of_row code c.args.bits.now c.args.rows.now c.loop-row.row-index
    c.row-item.result c.loop-row-test.true
