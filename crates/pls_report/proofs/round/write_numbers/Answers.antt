use Rattle.std.proofs.Common.{◌++◌, List, ℕ, codes, decimal}
use Rattle.pls_report.specs.inner.Pieces.{connected_tail}
use Rattle.pls_streams.proofs.Written.{both, failed, front_first, front_later, wrote_both}
use Rattle.pls_report.proofs.round.write_numbers.Goals as goal

pub returns : goal.returns
returns g c =
    let one : List ℕ = codes "round " ++ decimal c.args.number in
    let two : List ℕ = codes " checked " ++ decimal c.args.checked in
    let three : List ℕ = connected_tail c.args.connected ++ decimal c.args.rejecting in
    let last = rw c.connected_words.ensures at c.in_ok-put_numbered-3.ensures in
    both _ _ _ _ c.put.result (one ++ (two ++ three)) (codes "\n")
    (wrote_both one (two ++ three) c.in_ok-put_numbered.ensures
    (wrote_both two three c.in_ok-put_numbered-2.ensures last)) c.put.ensures

pub returns-in_err-put_numbered : goal.returns-in_err-put_numbered
returns-in_err-put_numbered g c =
    let one : List ℕ = codes "round " ++ decimal c.args.number in
    let two : List ℕ = codes " checked " ++ decimal c.args.checked in
    let three : List ℕ = connected_tail c.args.connected ++ decimal c.args.rejecting in
    failed _ _ c.from_residual.result _ c.from_residual.ensures.0
    (front_first (one ++ (two ++ three)) (codes "\n")
    (front_first one (two ++ three) c.in_err-put_numbered.ensures))

pub returns-in_err-put_numbered-2 : goal.returns-in_err-put_numbered-2
returns-in_err-put_numbered-2 g c =
    let one : List ℕ = codes "round " ++ decimal c.args.number in
    let two : List ℕ = codes " checked " ++ decimal c.args.checked in
    let three : List ℕ = connected_tail c.args.connected ++ decimal c.args.rejecting in
    failed _ _ c.from_residual-in_err-put_numbered-2.result _ c.from_residual-in_err-put_numbered-2.ensures.0
    (front_first (one ++ (two ++ three)) (codes "\n")
    (front_later one (two ++ three) c.in_ok-put_numbered.ensures
    (front_first two three c.in_err-put_numbered-2.ensures)))

pub returns-in_err-put_numbered-3 : goal.returns-in_err-put_numbered-3
returns-in_err-put_numbered-3 g c =
    let one : List ℕ = codes "round " ++ decimal c.args.number in
    let two : List ℕ = codes " checked " ++ decimal c.args.checked in
    let three : List ℕ = connected_tail c.args.connected ++ decimal c.args.rejecting in
    let last = rw c.connected_words.ensures at c.in_err-put_numbered-3.ensures in
    failed _ _ c.from_residual-in_err-put_numbered-3.result _ c.from_residual-in_err-put_numbered-3.ensures.0
    (front_first (one ++ (two ++ three)) (codes "\n")
    (front_later one (two ++ three) c.in_ok-put_numbered.ensures
    (front_later two three c.in_ok-put_numbered-2.ensures last)))
