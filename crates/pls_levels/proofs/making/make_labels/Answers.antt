use Rattle.std.proofs.Common.{◌+◌, sym, subst}
use Rattle.pls_levels.specs.Making.{AreMade}
use Rattle.pls_levels.proofs.Made.{made_more}
use Rattle.pls_levels.proofs.making.make_labels.Goals as goal

pub loop-place-preserved : goal.loop-place-preserved
loop-place-preserved g c =
    let place = c.loop-place.place in
    let lists = g.K.LevelKind.lists_of c.args.lists.now in
    subst (AreMade c.args.net.now c.args.root c.args.depths.now lists (place + 1))
    (sym c.in_ok-push.ensures.items)
    (made_more c.args.net.now c.args.root c.args.depths.now lists c.in_ok-levels.levels place
    c.loop-place.labels.items c.label_at.result c.in_ok-levels.ensures c.label_at.ensures
    c.loop-place.invariant)
