use Rattle.std.proofs.Common.{refl, rules}
use Rattle.pls_scheme.specs.Reading.{port_with}
use Rattle.pls_distance.proofs.MorePorts.{is_gathered}
use Rattle.pls_distance.proofs.gathering.PortTally.with.Goals as goal

pub returns : goal.returns
returns c id state own ports up many is =
    is_gathered id state own ports (port_with c.args.weight c.args.label) c.args.self _ is refl
    (search rules) (rw (up, many) (search rules)) (search rules)
