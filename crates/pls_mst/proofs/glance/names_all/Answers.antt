use Rattle.std.proofs.Common.{◌∙◌, sym, arith}
use Rattle.pls_mst.proofs.Looked.{first_are_all, none_named, others_named}
use Rattle.pls_mst.proofs.glance.names_all.Goals as goal

pub returns-then-not-front_has : goal.returns-then-not-front_has
returns-then-not-front_has g c own read is =
    none_named own c.args.label.now.glance.now c.in_front-first.result c.front_has.result is
    (omega (arith, c.in_front-first.ensures)) c.front_has.ensures c.if-not-front_has.true

pub returns-then-head-past : goal.returns-then-head-past
returns-then-head-past g c own read is =
    sym c.if-not-front_has.false
    ∙ first_are_all own c.args.label.now.glance.now c.in_front-first.result c.front_has.result is
    (omega (arith, c.in_front-first.ensures)) c.front_has.ensures c.if-head-past.true

pub returns : goal.returns
returns g c own read is =
    others_named own c.args.label.now.glance.now c.in_front-first.result c.front_has.result is
    (omega (arith, c.in_front-first.ensures)) c.front_has.ensures
    c.behind_front-numbers.result.numbers c.all_have.result c.if-not-front_has.false
    (c.behind_front-numbers.ensures own read) c.all_have.ensures
