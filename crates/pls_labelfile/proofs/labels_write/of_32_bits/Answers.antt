use Rattle.std.proofs.Common.{◌<◌, ◌^◌, arith, subst}
use Rattle.std.specs.List.{All}
use Rattle.std.proofs.lemmas.List.{length-map, take_all}
use Rattle.pls_configuration.specs.Configuration.{ids_of}
use Rattle.pls_labelfile.proofs.LabelsWritten.{one_small_more}
use Rattle.pls_labelfile.proofs.labels_write.of_32_bits.Goals as goal

pub loop-place-preserved : goal.loop-place-preserved
loop-place-preserved c =
    one_small_more c.args.net.now c.loop-place.place c.node.result.0 c.node.ensures.id
    c.loop-place.invariant c.is_small.ensures

pub returns : goal.returns
returns c =
    let rows = c.args.net.now in
    subst (All (λ id. id < 2 ^ 32))
    (take_all c.loop-place.place (ids_of rows)
    (omega (
      arith,
      length-map rows (λ row. row.id),
      c.loop-place-test.false,
      c.len-place-end.ensures.len,
    ))) c.loop-place.invariant
