use Rattle.std.proofs.Common.{◌≡◌, ◌∙◌, ℕ, List, Some, get_or, slice_get, sym, ap, subst, arith}
use Rattle.pls_configuration.specs.declared.row.NodeRow.{NodeRow}
use Rattle.pls_configuration.specs.Configuration.{ports_in}
use Rattle.pls_sim.specs.Ways.{IsSlot}
use Rattle.pls_sim.proofs.Numbering.{value_at}
use Rattle.pls_watch.specs.Versions.{held}
use Rattle.pls_watch.specs.Turning.{Turned}
use Rattle.pls_watch.specs.inner.Numbers.{IsLabel}
use Rattle.pls_watch.specs.inner.Woven.{woven}
use Rattle.pls_watch.proofs.Arrived.{held_value, none_held}
use Rattle.pls_watch.proofs.versions.Versions.held_version.Goals as goal

pub returns-then-not-heard-clause-version : goal.returns-then-not-heard-clause-version
returns-then-not-heard-clause-version c = λ row at stands has.
    let old = c.self.inside in
    let network = ap (λ (turned : Turned). turned.network) c.self.view_is in
    none_held old.net.now (woven old.sim.events old.givings.items) _ _ _ c.self.invariant.1 old.most old.sim
    c.self.invariant.0
    row.id at.nbr c.heard.result
    (c.heard.ensures row at (ap (λ (rows : List NodeRow). slice_get rows c.args.i)
    (c.self.invariant.0.network ∙ network) ∙ stands) has)
    c.if-not-heard.true
    ∙ ap (λ (turned : Turned). held turned.network turned.turns row.id at.nbr) c.self.view_is

pub get-requires : goal.get-requires
get-requires c =
    omega (
      arith,
      c.number_of-number.ensures.within,
      ap ports_in c.self.invariant.0.network,
      c.self.invariant.1.each_port,
    )

pub returns-clause-version : goal.returns-clause-version
returns-clause-version c = λ row at stands has.
    let old = c.self.inside in
    let network = ap (λ (turned : Turned). turned.network) c.self.view_is in
    let there : slice_get old.sim.network c.args.i ≡ Some row =
    ap (λ (rows : List NodeRow). slice_get rows c.args.i)
    (c.self.invariant.0.network ∙ network) ∙ stands in
    held_value old.net.now (woven old.sim.events old.givings.items) _ _ _ c.self.invariant.1 old.most old.sim
    c.self.invariant.0
    row.id at.nbr c.heard.result (c.heard.ensures row at there has)
    c.if-not-heard.false c.number_of-number.result c.get.result.version
    (subst (λ (rows : List NodeRow). IsSlot rows c.number_of-number.result row.id at.nbr)
    c.self.invariant.0.network (c.number_of-number.ensures.number row at there has))
    (omega (
      arith,
      c.number_of-number.ensures.within,
      ap ports_in c.self.invariant.0.network,
      c.self.invariant.1.each_port,
    ))
    c.get.ensures.version
    ∙ ap (λ (turned : Turned). held turned.network turned.turns row.id at.nbr) c.self.view_is

pub returns-clause-label : goal.returns-clause-label
returns-clause-label c = λ row at stands has.
    let old = c.self.inside in
    let rows = old.net.now in
    let network = ap (λ (turned : Turned). turned.network) c.self.view_is in
    let there : slice_get old.sim.network c.args.i ≡ Some row =
    ap (λ (rows : List NodeRow). slice_get rows c.args.i)
    (c.self.invariant.0.network ∙ network) ∙ stands in
    let slot : IsSlot rows c.number_of-number.result row.id at.nbr =
    subst (λ (rows : List NodeRow). IsSlot rows c.number_of-number.result row.id at.nbr)
    c.self.invariant.0.network (c.number_of-number.ensures.number row at there has) in
    let within = c.number_of-number.ensures.within in
    let version =
    held_value rows (woven old.sim.events old.givings.items) _ _ _ c.self.invariant.1 old.most old.sim c.self.invariant.0
    row.id at.nbr c.heard.result (c.heard.ensures row at there has)
    c.if-not-heard.false c.number_of-number.result c.get.result.version slot
    (omega (arith, within, ap ports_in c.self.invariant.0.network, c.self.invariant.1.each_port))
    c.get.ensures.version in
    let label : get_or old.held.labels c.number_of-number.result 0 ≡ c.get.result.label =
    value_at old.held.labels c.number_of-number.result c.get.result.label
    (omega (arith, within, ap ports_in c.self.invariant.0.network, c.self.invariant.3.each_port))
    c.get.ensures.label in
    subst (λ (turned : Turned). IsLabel turned.network turned.turns at.nbr c.get.result.version
    c.get.result.label) c.self.view_is
    (subst (λ (l : ℕ). IsLabel rows (woven old.sim.events old.givings.items) at.nbr c.get.result.version l) label
    (c.self.invariant.3.are_held c.number_of-number.result row.id at.nbr c.get.result.version slot
    (sym version)))
