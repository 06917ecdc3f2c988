use Rattle.std.proofs.Common.{◌∙◌, refl, sym, IfNone, IfSome, subst}
use Rattle.std.proofs.lemmas.Bool.{true≢false}
use Rattle.pls_configuration.specs.Walk.{IsConnected}
use Rattle.pls_graph.specs.Connected.{IsFirstApart}
use Rattle.pls_universal.specs.laws.MapMet.{connected-joined}
use Rattle.pls_universal.proofs.Buildable.{apart-none}
use Rattle.pls.proofs.networks.is_connected.Goals as goal

pub returns-in-None : goal.returns-in-None
returns-in-None c =
    let rows = c.args.net.now in
    let joined : IsConnected rows =
    subst (λ o. IfNone o (IsConnected rows)) c.in-None.is c.in_ok-node_apart.ensures.connected in
    (λ _. joined, λ _. refl)

pub returns-in-Some : goal.returns-in-Some
returns-in-Some c =
    let rows = c.args.net.now in
    let id = c.in-Some.field-0 in
    let apart : IsFirstApart rows id =
    subst (λ o. IfSome o (λ id. IsFirstApart rows id)) c.in-Some.is
    c.in_ok-node_apart.ensures.apart in (
      λ yes. absurd (true≢false (sym yes)),
      λ joined. absurd (true≢false
          (sym (connected-joined rows joined) ∙ apart-none rows c.node_apart.ensures.valid id apart)),
    )
