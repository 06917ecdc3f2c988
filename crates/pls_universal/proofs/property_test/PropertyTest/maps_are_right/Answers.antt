use Rattle.pls_universal.specs.laws.MapShow.{each_map, map_show}
use Rattle.pls_universal.proofs.property_test.PropertyTest.maps_are_right.Goals as goal

pub returns-clause-maps : goal.returns-clause-maps
returns-clause-maps g c say hold row in' =
    each_map (g.Self.PropertyTest.test c.args.self.now) c.args.net.now c.is_valid.ensures
    c.requires say hold row in'

pub returns-clause-holds : goal.returns-clause-holds
returns-clause-holds g c say hold =
    map_show (g.Self.PropertyTest.test c.args.self.now) (g.Self.Property.holds c.args.self.now)
    (g.met.Self.PropertyTest.test_law c.args.self.now) c.args.net.now c.is_valid.ensures c.requires say
    hold
