use Rattle.std.proofs.Common.{◌≡◌, ◌-◌, ◌+◌, arith, length-drop, subst, ◌∙◌}
use Rattle.std.proofs.Math.Seq.{take-add}
use Rattle.std.proofs.lemmas.List.{take_rest}
use Rattle.std.proofs.KnownBytes.{Appends-trans}
use Rattle.pls_streams.proofs.writing.write_all.Goals as goal

pub loop-sent-preserved : goal.loop-sent-preserved
loop-sent-preserved g c =
    let bytes = c.args.bytes.now in
    let sent = c.loop-sent.sent in
    let piece = rw (take_rest bytes sent) at c.in-Ok.ensures.bytes in record {
      within = omega (arith, c.in-Ok.ensures.bound);
      taken = rw (take-add sent c.in-Ok.count bytes)
          (Appends-trans _ _ _ _ _ c.loop-sent.invariant.taken piece);
      sure = λ most sure fits.
          let before = c.loop-sent.invariant.sure most sure fits in
          let after = c.in-Ok.ensures.sure (most - sent) before.sure
          (omega (arith, length-drop sent bytes, fits)) in
          let left : most - sent - c.in-Ok.count ≡ most - (sent + c.in-Ok.count) = omega arith in
          record {
            unfailing = after.unfailing ∙ before.unfailing;
            sure = subst (g.K.Sink.IsSureOf c.write.new.self) left after.sure;
          };
      later = omega (arith, c.in-Ok.ensures.cause.0);
    }
