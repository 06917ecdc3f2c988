use Rattle.std.proofs.Common.{◌≡◌, ℕ, length, subst, arith}
use Rattle.pls_components.specs.inner.Numbers.{AreNumbered}
use Rattle.pls_components.proofs.flood.number_all.Goals as goal

pub returns : goal.returns
returns c =
    let same : c.loop-root.root ≡ length c.args.net.now = omega arith in
    subst (λ (first : ℕ). AreNumbered c.args.net.now c.loop-root.flood.numbers.items first
    c.loop-root.count) same c.loop-root.invariant.numbered
