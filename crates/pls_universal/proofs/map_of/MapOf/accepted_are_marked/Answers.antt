use Rattle.std.proofs.Common.{List}
use Rattle.std.specs.Bool.{⊤}
use Rattle.pls_configuration.specs.declared.row.NodeRow.{NodeRow}
use Rattle.pls_numbers.specs.Shape.{IsSpelled}
use Rattle.pls_numbers.specs.laws.FormatLaws.{one_spelling}
use Rattle.pls_scheme.specs.laws.Marking.{marked_once}
use Rattle.pls_universal.specs.Reading.{map_shape}
use Rattle.pls_universal.specs.Rules.{map_says}
use Rattle.pls_universal.specs.laws.MapMet.{map_right_once}
use Rattle.pls_universal.proofs.AcceptedMaps.{accepted_marked}
use Rattle.pls_universal.proofs.map_of.MapOf.accepted_are_marked.Goals as goal

pub returns-clause-marked : goal.returns-clause-marked
returns-clause-marked g c =
    accepted_marked g.C.NumCode.code g.C.NumCode.takes g.met.C.NumCode.takes_codes
    g.met.C.NumCode.takes_only (g.P.PropertyTest.test c.args.self.now.property) c.args.net.now
    c.is_valid.ensures c.requires.connected c.args.labels.now c.requires.each c.requires.accepted

pub returns-clause-alone : goal.returns-clause-alone
returns-clause-alone g c others theirs =
    marked_once (IsSpelled map_shape g.C.NumCode.code) (λ (rows : List NodeRow). ⊤) map_says
    (one_spelling map_shape g.C.NumCode.code)
    (map_right_once (λ (rows : List NodeRow). ⊤)) c.args.net.now others c.args.labels.now
    c.is_valid.ensures c.requires.connected tt theirs (returns-clause-marked g c)
