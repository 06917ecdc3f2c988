use Rattle.std.proofs.Common.{◌∙◌, sym}
use Rattle.pls_pathmax.proofs.Looked.{noted_in_front}
use Rattle.pls_pathmax.proofs.MorePorts.{led_flags}
use Rattle.pls_pathmax.proofs.gathering.led_on_with.Goals as goal

pub returns : goal.returns
returns g c mine theirs own own_is other other_is many =
    led_flags c.args.first c.args.weight mine.levels theirs.levels c.args.before
    c.note_ways.new.flags many c.note_ways.auto.flags
    (c.note_ways.ensures mine.levels theirs.levels (c.levels_in-mine.ensures mine own own_is)
    (c.levels_in-theirs.ensures theirs other other_is))

pub returns-then-not-both_go_on : goal.returns-then-not-both_go_on
returns-then-not-both_go_on g c mine theirs own own_is other other_is many =
    led_flags c.args.first c.args.weight mine.levels theirs.levels c.args.before
    c.note_front.new.flags many c.note_front.auto.flags
    (λ k within. noted_in_front g.row.N c.args.weight mine theirs c.args.own.now.glance.now
    c.args.label.now.glance.now c.both_keep-count.result own_is other_is
    c.both_keep-count.ensures (sym c.both_go_on.ensures ∙ c.if-not-both_go_on.true)
    c.args.first k c.args.before c.note_front.new.flags c.if-first-eq0.true
    (c.note_front.ensures k))
