use Rattle.std.proofs.Common.{ap, arith}
use Rattle.pls_graph.specs.declared.size.Size.{Size}
use Rattle.pls_graph.specs.Size.{size_of}
use Rattle.pls_scheme.specs.Theorem.{AreWords}
use Rattle.pls_universal.specs.laws.MapMet.{map_met}
use Rattle.pls_universal.proofs.property_test.PropertyTest.right_maps_pass.Goals as goal

pub returns : goal.returns
returns g c say right =
    let words : AreWords (size_of c.args.net.now) = record {
      max_id = omega (arith, ap (λ (size : Size). size.max_id) c.size.ensures.size);
      max_weight = omega (arith, ap (λ (size : Size). size.max_weight) c.size.ensures.size);
      max_mark = omega (arith, ap (λ (size : Size). size.max_mark) c.size.ensures.size);
    } in
    map_met (g.Self.PropertyTest.test c.args.self.now) (g.Self.Property.holds c.args.self.now)
    (g.met.Self.PropertyTest.test_law c.args.self.now) c.args.net.now c.size.ensures.valid
    c.requires.connected c.requires.holds words say right
