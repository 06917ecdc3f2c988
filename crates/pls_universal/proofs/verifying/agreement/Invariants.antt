use Rattle.std.proofs.Common.{◌≡◌, ◌&&◌, List, Some, drop, option_map}
use Rattle.pls_universal.specs.declared.map.MapRow.{MapRow}
use Rattle.pls_numbers.specs.Shape.{said_by}
use Rattle.pls_universal.specs.Reading.{rows_shape}
use Rattle.pls_universal.specs.inner.Verifying.{agreement, ports_shown}
use Rattle.pls_universal.proofs.verifying.agreement.Given as goal

-- the ports so far agree, and what is left decides
abbrev pub invariant-loop-port : goal.invariant-loop-port
invariant-loop-port g l =
    (rows : List MapRow) → said_by rows_shape g.C.NumCode.takes l.map ≡ Some rows
    → agreement g.C.NumCode.takes rows (ports_shown l.ports)
    ≡ option_map (λ rest. l.agrees && rest)
    (agreement g.C.NumCode.takes rows (ports_shown (drop l.port-index l.ports)))
