use Rattle.std.proofs.Common.{arith}
use Rattle.pls_mst.proofs.Looked.{looked_behind, looked_in_front}
use Rattle.pls_mst.proofs.comparing.compare_levels.Goals as goal

pub returns-then-shared-past : goal.returns-then-shared-past
returns-then-shared-past g c own other own_read own_is other_read other_is =
    looked_in_front c.args.pointer c.args.between.now own other c.args.mine.now.glance.now
    c.args.theirs.now.glance.now c.min-shared.result c.in_front-first.result
    c.compare_fronts-found.result own_is other_is c.min-shared.ensures
    (omega (arith, c.in_front-first.ensures, c.min.ensures))
    (omega (arith, c.in_front-first.ensures, c.min.ensures)) c.compare_fronts-found.ensures
    c.if-shared-past.true

pub returns : goal.returns
returns g c own other own_read own_is other_read other_is =
    looked_behind c.args.pointer c.args.between.now own other c.args.mine.now.glance.now
    c.args.theirs.now.glance.now c.min-shared.result c.in_front-first.result
    c.compare_fronts-found.result own_is other_is c.min-shared.ensures
    (omega (arith, c.in_front-first.ensures, c.min.ensures))
    (omega (arith, c.in_front-first.ensures, c.min.ensures)) c.compare_fronts-found.ensures
    c.behind_front-here.result.numbers c.behind_front-there.result.numbers
    c.compare_behind.result (c.behind_front-here.ensures own own_read)
    (c.behind_front-there.ensures other other_read) c.compare_behind.ensures
