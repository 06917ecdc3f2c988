use Rattle.std.proofs.Common.{◌≡◌, ◌∙◌, None, Some, sym}
use Rattle.pls_components.proofs.flood.all_numbers.Goals as goal

pub unreachable-requires : goal.unreachable-requires
unreachable-requires c =
    let has = c.requires c.loop-number.number-index c.loop-number-test.true in
    let no_one : None ≡ Some has.0 = sym c.in-None.is ∙ has.1 in cc
