use Rattle.std.proofs.Common.{◌≡◌, ◌<◌, ℕ, true, is_some, length, arith}
use Rattle.pls_components.specs.inner.Numbers.{HasNumber}
use Rattle.pls_components.proofs.Entering.{some_number}
use Rattle.pls_components.proofs.Numbering.{numbered-more, numbered-past}
use Rattle.pls_components.proofs.flood.Flood.fill_if_none.Goals as goal

pub returns-then-is_some-clause-numbered : goal.returns-then-is_some-clause-numbered
returns-then-is_some-clause-numbered c =
    let numbers = c.args.self.now.numbers.items in
    let root = c.args.root in
    let within : root < length numbers = omega (arith, c.requires.numbered.size, c.requires.within) in
    let some : is_some c.index.result.now ≡ true = cc in
    let has : (known : ℕ) × HasNumber numbers root known =
    some_number numbers root within c.index.result.now c.index.ensures some in
    numbered-past c.args.net.now root c.args.count numbers has c.requires.numbered

pub returns-clause-numbered : goal.returns-clause-numbered
returns-clause-numbered c =
    numbered-more c.args.net.now c.args.root c.args.count c.args.self.now.numbers.items
    c.fill.new.self.numbers.items c.requires.numbered c.in_ok-fill.ensures.filled
