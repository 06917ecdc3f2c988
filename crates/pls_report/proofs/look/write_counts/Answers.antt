use Rattle.std.proofs.Common.{◌++◌, List, ℕ, codes, decimal}
use Rattle.pls_streams.proofs.Written.{both, failed, front_first, front_later, wrote_both}
use Rattle.pls_report.proofs.look.write_counts.Goals as goal

pub returns : goal.returns
returns g c =
    let one : List ℕ = codes "look " ++ decimal c.args.number in
    let two : List ℕ = codes " rejecting " ++ decimal c.args.counts.rejecting in
    let three : List ℕ = codes " waiting " ++ decimal c.args.counts.waiting in
    let four : List ℕ = codes " stale " ++ decimal c.args.counts.stale in
    both _ _ _ _ c.put.result (one ++ (two ++ (three ++ four))) (codes "\n")
    (wrote_both one (two ++ (three ++ four)) c.in_ok-put_numbered.ensures
    (wrote_both two (three ++ four) c.in_ok-put_numbered-2.ensures
    (wrote_both three four c.in_ok-put_numbered-3.ensures c.in_ok-put_numbered-4.ensures)))
    c.put.ensures

pub returns-in_err-put_numbered : goal.returns-in_err-put_numbered
returns-in_err-put_numbered g c =
    let one : List ℕ = codes "look " ++ decimal c.args.number in
    let two : List ℕ = codes " rejecting " ++ decimal c.args.counts.rejecting in
    let three : List ℕ = codes " waiting " ++ decimal c.args.counts.waiting in
    let four : List ℕ = codes " stale " ++ decimal c.args.counts.stale in
    failed _ _ c.from_residual.result _ c.from_residual.ensures.0
    (front_first (one ++ (two ++ (three ++ four))) (codes "\n")
    (front_first one (two ++ (three ++ four)) c.in_err-put_numbered.ensures))

pub returns-in_err-put_numbered-2 : goal.returns-in_err-put_numbered-2
returns-in_err-put_numbered-2 g c =
    let one : List ℕ = codes "look " ++ decimal c.args.number in
    let two : List ℕ = codes " rejecting " ++ decimal c.args.counts.rejecting in
    let three : List ℕ = codes " waiting " ++ decimal c.args.counts.waiting in
    let four : List ℕ = codes " stale " ++ decimal c.args.counts.stale in
    failed _ _ c.from_residual-in_err-put_numbered-2.result _
    c.from_residual-in_err-put_numbered-2.ensures.0
    (front_first (one ++ (two ++ (three ++ four))) (codes "\n")
    (front_later one (two ++ (three ++ four)) c.in_ok-put_numbered.ensures
    (front_first two (three ++ four) c.in_err-put_numbered-2.ensures)))

pub returns-in_err-put_numbered-3 : goal.returns-in_err-put_numbered-3
returns-in_err-put_numbered-3 g c =
    let one : List ℕ = codes "look " ++ decimal c.args.number in
    let two : List ℕ = codes " rejecting " ++ decimal c.args.counts.rejecting in
    let three : List ℕ = codes " waiting " ++ decimal c.args.counts.waiting in
    let four : List ℕ = codes " stale " ++ decimal c.args.counts.stale in
    failed _ _ c.from_residual-in_err-put_numbered-3.result _
    c.from_residual-in_err-put_numbered-3.ensures.0
    (front_first (one ++ (two ++ (three ++ four))) (codes "\n")
    (front_later one (two ++ (three ++ four)) c.in_ok-put_numbered.ensures
    (front_later two (three ++ four) c.in_ok-put_numbered-2.ensures
    (front_first three four c.in_err-put_numbered-3.ensures))))

pub returns-in_err-put_numbered-4 : goal.returns-in_err-put_numbered-4
returns-in_err-put_numbered-4 g c =
    let one : List ℕ = codes "look " ++ decimal c.args.number in
    let two : List ℕ = codes " rejecting " ++ decimal c.args.counts.rejecting in
    let three : List ℕ = codes " waiting " ++ decimal c.args.counts.waiting in
    let four : List ℕ = codes " stale " ++ decimal c.args.counts.stale in
    failed _ _ c.from_residual-in_err-put_numbered-4.result _
    c.from_residual-in_err-put_numbered-4.ensures.0
    (front_first (one ++ (two ++ (three ++ four))) (codes "\n")
    (front_later one (two ++ (three ++ four)) c.in_ok-put_numbered.ensures
    (front_later two (three ++ four) c.in_ok-put_numbered-2.ensures
    (front_later three four c.in_ok-put_numbered-3.ensures c.in_err-put_numbered-4.ensures))))
