use Rattle.std.proofs.Common.{◌≡◌, ◌∙◌, ◌<◌, ◌==◌, ℕ, length, Contains, sym, subst, true}
use Rattle.std.specs.List.{list_any}
use Rattle.std.proofs.lemmas.Bool.{eqb-true, not-true}
use Rattle.std.proofs.lemmas.List.Elements.{All-contains}
use Rattle.pls_graph.specs.Places.{beside}
use Rattle.pls_graph.proofs.Beside.{beside_within}
use Rattle.pls_facts.proofs.Lists.{passes_any}
use Rattle.pls_diameter_bridges.proofs.Crossed.{way_round}
use Rattle.pls_diameter_bridges.proofs.bridgeless.is_bridge.Goals as goal

pub ends_have_way_round-requires-clause-beside : goal.ends_have_way_round-requires-clause-beside
ends_have_way_round-requires-clause-beside c =
    let places = beside c.args.net.now c.args.place in
    let other = c.args.other in
    let yes : list_any (λ k. k == other) places ≡ true =
    sym c.is_beside.ensures ∙ c.if-not-is_beside.false in
    let (k, in', same) : (k : ℕ) × Contains places k × ((k == other) ≡ true) =
    passes_any (λ k. k == other) places yes in
    subst (Contains places) (eqb-true k other same) in'

pub ends_have_way_round-requires-clause-inside : goal.ends_have_way_round-requires-clause-inside
ends_have_way_round-requires-clause-inside c =
    let rows = c.args.net.now in
    All-contains (λ k. k < length rows) (beside rows c.args.place) c.args.other
    (beside_within rows c.is_valid.ensures c.args.place c.requires.within)
    (ends_have_way_round-requires-clause-beside c)

pub returns : goal.returns
returns c is holds =
    let yes = c.in_ok-round.ensures.1 (way_round c.args.net.now holds c.args.place c.args.other) in
    let no = not-true c.in_ok-round.round is in
    absurd (cc)
