use Rattle.std.proofs.Common.{◌*◌, ◌<◌, arith}
use Rattle.pls_numbers.proofs.numbers_format.NumbersFormatReadsInPlace.read_in_place.Goals as goal

pub read_numbers-requires : goal.read_numbers-requires
read_numbers-requires g c =
    let few : g.row.N * 8 < 9223372036854775808 =
    omega (arith, g.met.L.OfNumbers.numbers_law.few) in few

pub of_numbers-requires : goal.of_numbers-requires
of_numbers-requires g c =
    let few : g.row.N * 8 < 9223372036854775808 =
    omega (arith, g.met.L.OfNumbers.numbers_law.few) in few
