use Rattle.std.proofs.Common.{◌≡◌, drop}
use Rattle.pls_universal.specs.Rules.{matched}
use Rattle.pls_universal.specs.inner.Verifying.{is_port_seen, ports_shown}
use Rattle.pls_universal.proofs.verifying.same_ports.Given as goal

-- the ports so far are right, and those that are left decide
abbrev pub invariant-loop-p : goal.invariant-loop-p
invariant-loop-p g l =
    matched (is_port_seen g.C.NumCode.takes) l.ports (ports_shown l.seen)
    ≡ matched (is_port_seen g.C.NumCode.takes) (drop l.p l.ports) (ports_shown (drop l.p l.seen))
