use Rattle.std.proofs.Common.{◌≡◌, ◌++◌, [], take}
use Rattle.pls_numbers.specs.Numbers.{codes_of}
use Rattle.pls_universal.specs.inner.Writing.{numbers_of_ports}
use Rattle.pls_universal.proofs.writing.append_ports.Given as goal

-- the codes of those so far
abbrev pub invariant-loop-port : goal.invariant-loop-port
invariant-loop-port g l = l.bits ≡ l.initial.bits
    ++ codes_of g.C.NumCode.code []
    (numbers_of_ports g.P.StatedPort.pair (take l.port-index l.ports))
