use Rattle.std.proofs.Common.{◌+◌, ◌*◌, ap, refl, arith}
use Rattle.pls_bits.specs.Words.{bits_of}
use Rattle.pls_bits.proofs.Held.{held}
use Rattle.pls_bits.proofs.Ranges.{fewer_put, front_of, more_put, none_put}
use Rattle.pls_bits.proofs.Windows.{put_whole}
use Rattle.pls_bits.proofs.words.put_words.Goals as goal

pub loop-k-init : goal.loop-k-init
loop-k-init c = record {
  done = none_put c.args.words.now.items c.args.from.now (64 * c.args.place) c.args.start;
  room = omega (arith, c.requires.within);
  grows = omega arith;
}

pub returns-in_err-store-clause-kept : goal.returns-in_err-store-clause-kept
returns-in_err-store-clause-kept c =
    held c.from_residual.result _
    (front_of c.store.new.words.items c.loop-k.words.items c.args.words.now.items
    (64 * c.args.place) (64 * c.loop-k.k) _
    (ap (λ words. bits_of words 0 (64 * c.args.place + 64 * c.loop-k.k))
    c.in_err-store.ensures.unchanged) c.loop-k.invariant.done)

pub loop-k-preserved : goal.loop-k-preserved
loop-k-preserved c =
    let mid = c.loop-k.words.items in
    let new = c.store.new.words.items in
    let at = 64 * c.args.place + 64 * c.loop-k.k in
    record {
      done = more_put new mid c.args.words.now.items c.args.from.now (64 * c.args.place)
          c.args.start (64 * c.loop-k.k) 64 (64 * (c.loop-k.k + 1)) c.window.result (omega arith)
          (omega arith) c.window.ensures c.loop-k.invariant.done
          (put_whole mid at (c.args.place + c.loop-k.k) 0 64 c.window.result (omega arith)
          (omega arith) (omega arith) c.window.type_inv new refl c.in_ok-store.ensures.others
          c.in_ok-store.ensures.put);
      room = omega (arith, c.in_ok-store.ensures.within);
      grows = omega (arith, c.in_ok-store.ensures.grows, c.loop-k.invariant.grows);
    }

pub returns-clause-put : goal.returns-clause-put
returns-clause-put c =
    fewer_put c.loop-k.words.items c.args.words.now.items c.args.from.now (64 * c.args.place)
    c.args.start c.args.count (64 * c.loop-k.k)
    (omega (arith, c.loop-k-test.false, c.div_ceil-k-end.ensures)) c.loop-k.invariant.done
