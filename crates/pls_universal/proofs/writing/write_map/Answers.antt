use Rattle.std.proofs.Common.{◌≡◌, ◌∙◌, ◌<◌, ◌++◌, [], ℕ, List, Bool, Some, length, slice_get, take, get_or, sym, ap, subst, arith}
use Rattle.std.specs.List.{flat_map}
use Rattle.std.proofs.lemmas.List.{length-map, take_all}
use Rattle.std.proofs.lemmas.Option.{slice_get_within}
use Rattle.pls_configuration.specs.declared.row.NodeRow.{NodeRow}
use Rattle.pls_graph.proofs.Finds.{item_at}
use Rattle.pls_numbers.specs.Numbers.{AreCoded, codes_of}
use Rattle.pls_numbers.specs.laws.CodeLaws.{coded_item, codes_of-item}
use Rattle.pls_universal.specs.declared.map.MapRow.{MapRow}
use Rattle.pls_universal.specs.Map.{map_of, numbers_of_row, row_stated}
use Rattle.pls_universal.proofs.Lent.{record_at}
use Rattle.pls_universal.proofs.writing.write_map.Goals as goal

pub write_row-requires-clause-coded : goal.write_row-requires-clause-coded
write_row-requires-clause-coded g c row at =
    let rows : List NodeRow = c.args.net.now in
    let within = slice_get_within rows c.loop-i.i row at in
    subst (λ (row : MapRow). AreCoded [] (numbers_of_row row)) (record_at rows c.loop-i.i row at)
    (coded_item numbers_of_row (map_of rows) c.loop-i.i (row_stated row)
    (omega (arith, length-map rows row_stated, within)) c.maps_are_short.ensures.coded.1)

pub loop-i-preserved : goal.loop-i-preserved
loop-i-preserved g c =
    let code : ℕ → List Bool = g.C.NumCode.code in
    let rows : List NodeRow = c.args.net.now in
    let i : ℕ = c.loop-i.i in
    let within : i < length rows = omega (arith, c.loop-i-test.true, c.len-i-end.ensures.len) in
    let (row, at) : (row : NodeRow) × (slice_get rows i ≡ Some row) = item_at rows i within in
    let same : get_or (map_of rows) i (row_stated row) ≡ row_stated row = record_at rows i row at in
    c.in_ok-write_row.ensures row at
    ∙ ap (λ (bits : List Bool). bits ++ codes_of code [] (numbers_of_row (row_stated row)))
    c.loop-i.invariant
    ∙ ap (λ (row : MapRow). (code (length rows) ++ codes_of code [] (flat_map numbers_of_row
    (take i (map_of rows)))) ++ codes_of code [] (numbers_of_row row)) (sym same)
    ∙ codes_of-item numbers_of_row code (code (length rows)) (map_of rows) i (row_stated row)
    (omega (arith, length-map rows row_stated, within))

pub returns : goal.returns
returns g c =
    let code : ℕ → List Bool = g.C.NumCode.code in
    let rows : List NodeRow = c.args.net.now in
    let many : length (map_of rows) ≡ length rows = length-map rows row_stated in
    let all : take c.loop-i.i (map_of rows) ≡ map_of rows =
    take_all c.loop-i.i (map_of rows)
    (omega (arith, many, c.loop-i-test.false, c.len-i-end.ensures.len)) in record {
      codes = record {
        coded = c.maps_are_short.ensures.coded;
        written = c.loop-i.invariant
            ∙ ap (λ (records : List MapRow). code (length rows) ++ codes_of code [] (flat_map
            numbers_of_row records)) all
            ∙ ap (λ (count : ℕ). code count ++ codes_of code [] (flat_map numbers_of_row
            (map_of rows))) (sym many);
      };
      proper = tt;
    }
