use Rattle.std.proofs.Common.{◌≡◌, ◌∙◌, ℕ, ◌+◌, ◌==◌, Option, Some, false, length, slice_get, sym, ap, arith}
use Rattle.std.specs.Option.{option_map_or}
use Rattle.std.proofs.lemmas.Option.{slice_get_within}
use Rattle.pls_sim.proofs.Numbering.{value_at}
use Rattle.pls_watch.specs.Turning.{Turned}
use Rattle.pls_watch.specs.Versions.{newest}
use Rattle.pls_watch.proofs.Ahead.{held_few}
use Rattle.pls_watch.proofs.Arrived.{port_there}
use Rattle.pls_watch.proofs.More.{newest_few}
use Rattle.pls_watch.proofs.versions.Versions.neighbour_holds_previous.Goals as goal

pub overflow_add-result : goal.overflow_add-result
overflow_add-result c =
    let there = port_there c.args.self.now.network c.args.i c.args.port c.requires.place
    c.requires.port in
    let is = sym (c.held_back.ensures there.0 there.1 there.2 there.3) ∙ c.in-Some.is in
    let turns = c.args.self.now.turns in
    omega (
      arith,
      held_few c.args.self.now.network turns there.1.nbr there.0.id c.in-Some.version is,
      newest_few turns there.0.id,
      ap (λ (turned : Turned). length turned.turns) c.self.view_is,
      c.self.invariant.2.few,
      c.self.invariant.4.small,
    )

pub returns-in-Some : goal.returns-in-Some
returns-in-Some c row at stands has =
    let old = c.self.inside in
    let rows = old.net.now in
    let kept = c.self.invariant.1 in
    let version : ℕ = c.in-Some.version in
    let turns = c.args.self.now.turns in
    let here : slice_get rows c.args.i ≡ Some row =
    ap (λ (turned : Turned). slice_get turned.network c.args.i) c.self.view_is ∙ stands in
    let is = sym (c.held_back.ensures row at stands has) ∙ c.in-Some.is in
    let value : c.get.result.version ≡ newest turns row.id =
    sym (value_at old.newest.versions c.args.i c.get.result.version
    (omega (arith, slice_get_within rows c.args.i row here, kept.each_node)) c.get.ensures.version)
    ∙ kept.are_newest c.args.i row here
    ∙ ap (λ (turned : Turned). newest turned.turns row.id) c.self.view_is in
    ap (λ (newest : ℕ). version + 1 == newest) value
    ∙ sym (ap (λ (o : Option ℕ). option_map_or
    (λ version. version + 1 == newest turns row.id) o false) is)
