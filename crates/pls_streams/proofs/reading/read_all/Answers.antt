use Rattle.std.proofs.Common.{◌≡◌, ◌+◌, ◌++◌, length, arith, length-append}
use Rattle.std.proofs.KnownBytes.{Consumes-trans}
use Rattle.std.proofs.lemmas.Result.{err_from_is_err_and}
use Rattle.pls_streams.proofs.Consumed.{LosesFirst-consumed}
use Rattle.pls_streams.proofs.reading.read_all.Goals as goal

pub returns-then-piece-most-clause-too_long : goal.returns-then-piece-most-clause-too_long
returns-then-piece-most-clause-too_long g c =
    let read = c.loop-bytes.bytes in
    let piece = c.in_ok-piece.piece.now in
    let whole : length (read.items ++ piece) ≡ c.args.limit + 1 =
    omega (arith, length-append read.items piece, read.ok.0, c.in_ok-piece.ensures.short) in
    λ _. LosesFirst-consumed _ _ (read.items ++ piece) _
    (Consumes-trans _ _ _ _ _ c.loop-bytes.invariant.taken c.in_ok-piece.ensures.bytes) whole

pub returns-in_err-extend_from_slice-clause-else_within :
    goal.returns-in_err-extend_from_slice-clause-else_within
returns-in_err-extend_from_slice-clause-else_within g c =
    let read = c.loop-bytes.bytes in
    let piece = c.in_ok-piece.piece.now in
    let whole : length (read.items ++ piece) ≡ length read.items + length piece =
    length-append read.items piece in
    let p = err_from_is_err_and c.from_residual-in_err-extend_from_slice.result
    c.from_residual-in_err-extend_from_slice.ensures.1 in
    rw p.1 (λ _. (
      length read.items + length piece,
      omega (arith, read.ok.0),
      LosesFirst-consumed _ _ (read.items ++ piece) _
          (Consumes-trans _ _ _ _ _ c.loop-bytes.invariant.taken c.in_ok-piece.ensures.bytes) whole,
    ))
