use Rattle.std.proofs.Common.{◌≡◌, ◌∙◌, true, false, refl, sym}
use Rattle.std.specs.List.{list_any, zip}
use Rattle.pls_pathmax.specs.Rules.{meet_lightly}
use Rattle.pls_pathmax.proofs.Looked.{meets_in_front, meets_nowhere}
use Rattle.pls_pathmax.proofs.gathering.is_heavy_too.Goals as goal

pub returns-then-meet_in_front : goal.returns-then-meet_in_front
returns-then-meet_in_front g c mine theirs own_read own_is theirs_read theirs_is =
    let meets : list_any (λ both. meet_lightly c.args.weight both.0 both.1)
    (zip mine.levels theirs.levels) ≡ true =
    meets_in_front g.row.N c.args.weight mine theirs c.args.own.now.glance.now
    c.args.label.now.glance.now c.both_keep-count.result own_is theirs_is
    c.both_keep-count.ensures c.meet_in_front.result c.meet_in_front.ensures
    c.if-meet_in_front.true in
    rw (c.if-not-before.false, meets) refl

pub returns-then-not-both_go_on : goal.returns-then-not-both_go_on
returns-then-not-both_go_on g c mine theirs own_read own_is theirs_read theirs_is =
    let meets : list_any (λ both. meet_lightly c.args.weight both.0 both.1)
    (zip mine.levels theirs.levels) ≡ false =
    sym (meets_nowhere g.row.N c.args.weight mine theirs c.args.own.now.glance.now
    c.args.label.now.glance.now c.both_keep-count.result own_is theirs_is
    c.both_keep-count.ensures c.meet_in_front.result c.meet_in_front.ensures
    (sym c.both_go_on.ensures ∙ c.if-not-both_go_on.true)) ∙ c.if-meet_in_front.false in
    rw (c.if-not-before.false, meets) refl
