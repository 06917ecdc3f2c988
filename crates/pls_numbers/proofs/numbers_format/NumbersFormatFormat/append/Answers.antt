use Rattle.std.proofs.Common.{◌*◌, ◌<◌, arith}
use Rattle.pls_numbers.proofs.numbers_format.NumbersFormatFormat.append.Goals as goal

pub numbers-requires : goal.numbers-requires
numbers-requires g c =
    let few : g.row.N * 8 < 9223372036854775808 =
    omega (arith, g.met.L.OfNumbers.numbers_law.few) in few

pub shared_whole_as_slice-append_numbers : goal.shared_whole_as_slice-append_numbers
shared_whole_as_slice-append_numbers g c = omega (arith, g.met.L.OfNumbers.numbers_law.few)
