use Rattle.std.proofs.Common.{refl, IfNone, IfSome, subst}
use Rattle.pls_configuration.specs.Walk.{IsConnected}
use Rattle.pls_graph.specs.Connected.{IsFirstApart}
use Rattle.pls_universal.specs.laws.MapMet.{connected-joined}
use Rattle.pls_universal.proofs.Buildable.{apart-none}
use Rattle.pls_universal.proofs.building.if_connected.Goals as goal

pub returns-in-Some : goal.returns-in-Some
returns-in-Some c =
    let apart : IsFirstApart c.args.net c.in-Some.field-0 =
    subst (λ o. IfSome o (λ id. IsFirstApart c.args.net id)) c.in-Some.is
    c.in_ok-node_apart.ensures.apart in
    rw (apart-none c.args.net c.node_apart.ensures.valid c.in-Some.field-0 apart) refl

pub returns-in-None : goal.returns-in-None
returns-in-None c =
    let joined : IsConnected c.args.net =
    subst (λ o. IfNone o (IsConnected c.args.net)) c.in-None.is
    c.in_ok-node_apart.ensures.connected in
    rw (connected-joined c.args.net joined) refl
