use Rattle.std.proofs.Common.{Some, subst, sym}
use Rattle.pls_configuration.specs.Walk.{IsConnected}
use Rattle.pls_universal.specs.laws.RuleLaws.{network-is}
use Rattle.pls_universal.specs.inner.Stating.{IsNetworkOf}
use Rattle.pls_universal.proofs.Buildable.{told}
use Rattle.pls_universal.proofs.stating.stated_by.Goals as goal

pub decide-requires : goal.decide-requires
decide-requires g c =
    let rows = c.args.rows.now in
    let found : IsNetworkOf rows (Some c.in-Some.net) =
    subst (IsNetworkOf rows) c.in-Some.is c.in_ok-net.ensures in
    subst IsConnected (sym found.1) (network-is rows found.0).1

pub returns : goal.returns
returns g c =
    let rows = c.args.rows.now in
    let property = c.args.property.now in
    let found : IsNetworkOf rows (Some c.in-Some.net) =
    subst (IsNetworkOf rows) c.in-Some.is c.in_ok-net.ensures in (
      found.0,
      found.1,
      told (g.P.PropertyTest.test property) (g.P.Property.holds property)
          (g.met.P.PropertyTest.test_law property) rows found.0 c.in_ok-has_property.has_property
          (rw found.1 at (c.in_ok-has_property.ensures)),
    )
