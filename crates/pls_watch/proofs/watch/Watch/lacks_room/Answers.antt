use Rattle.std.proofs.Common.{sym}
use Rattle.pls_watch.proofs.Room.{lacks_bits, lacks_relabels}
use Rattle.pls_watch.proofs.Stocked.{count_is}
use Rattle.pls_watch.proofs.watch.Watch.lacks_room.Goals as goal

pub returns-then-self : goal.returns-then-self
returns-then-self c = λ node label long.
    let old = c.self.inside in
    rw (← c.self.view_is)
    (lacks_relabels old.most_relabels old.relabels _ _
    (count_is old.versions old.labels old.most_relabels old.most_bits old.net.now old.relabels old.relabel_bits
    c.self.invariant) c.if-self.true)

pub returns : goal.returns
returns c = λ node label long.
    let old = c.self.inside in
    rw (← c.self.view_is, long)
    (lacks_bits old.most_relabels old.relabels _ old.most_bits old.relabel_bits _ c.args.len
    (count_is old.versions old.labels old.most_relabels old.most_bits old.net.now old.relabels old.relabel_bits
    c.self.invariant) c.if-self.false (sym c.self.invariant.sum) c.self.invariant.few_bits)
