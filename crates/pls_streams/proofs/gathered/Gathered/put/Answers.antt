use Rattle.std.proofs.Common.{◌∙◌, []}
use Rattle.pls_streams.proofs.Written.{alone, both}
use Rattle.pls_streams.proofs.gathered.Gathered.put.Goals as goal

pub returns : goal.returns
returns g c =
    let flushed = rw c.if-add.ensures at c.in_ok-flush.ensures.writes in
    both _ _ _ _ c.write_all.result [] c.args.bytes.now flushed
    (alone _ _ _ _ (g.K.Sink.IsSureOf c.flush.new.sink) (g.K.Sink.IsSureOf c.write_all.new.sink)
    c.flush.new.self c.add-2.new.self c.write_all.result c.args.bytes.now
    c.in_ok-flush.ensures.none (c.if-add-2.ensures ∙ c.in_ok-flush.ensures.none)
    c.write_all.ensures.all c.write_all.ensures.part c.write_all.ensures.fault
    c.write_all.ensures.never_falls c.write_all.ensures.sure)
