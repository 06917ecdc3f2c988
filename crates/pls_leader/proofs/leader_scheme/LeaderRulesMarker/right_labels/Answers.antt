use Rattle.std.proofs.Common.{◌≡◌, ◌∙◌, None, Some, sym}
use Rattle.pls_leader.proofs.Right.{leader_place, leader_right}
use Rattle.pls_leader.proofs.leader_scheme.LeaderRulesMarker.right_labels.Goals as goal

pub returns-in_default-place_of-clause-lacking : goal.returns-in_default-place_of-clause-lacking
returns-in_default-place_of-clause-lacking g c holds =
    let only = rw c.in-Some.is at (c.only_node.ensures.some) in
    let place = leader_place c.args.net.now c.only_node.ensures.valid c.in-Some.leader only in
    let none : None ≡ Some place.0 =
    sym c.in_default-place_of.is ∙ c.place_of.ensures.place ∙ place.2 in
    absurd (cc)

pub returns-clause-right : goal.returns-clause-right
returns-clause-right g c =
    let only = rw c.in-Some.is at (c.only_node.ensures.some) in
    rw (c.in_ok-labels.ensures, c.deref.ensures.value)
    (leader_right c.args.net.now c.only_node.ensures.valid c.in-Some.leader only
    c.in-Some-place_of.place (sym c.place_of.ensures.place ∙ c.in-Some-place_of.is)
    c.in_ok-levels.levels.items c.in_ok-levels.ensures)
