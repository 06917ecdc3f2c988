use Rattle.std.proofs.Common.{◌++◌, List, ℕ, codes, decimal, subst}
use Rattle.pls_streams.specs.Gathered.{Writes, WroteFront}
use Rattle.pls_streams.proofs.Written.{both, failed, front_first, front_later, wrote_both}
use Rattle.pls_report.specs.inner.Pieces.{waiting_tail}
use Rattle.pls_report.proofs.Texts.{component_text}
use Rattle.pls_report.proofs.component_lines.write_component.Goals as goal

pub returns : goal.returns
returns g c =
    let one : List ℕ = codes "component " ++ decimal c.args.part.id in
    let two : List ℕ = codes " nodes " ++ decimal c.args.part.nodes in
    let three : List ℕ = codes " rejecting " ++ decimal c.args.part.rejecting in
    let four = waiting_tail c.args.simulated c.args.part.waiting in
    subst (Writes _ _ _ _ _ _ _ _ c.put.result) (component_text c.args.simulated c.args.part)
    (both _ _ _ _ c.put.result (one ++ (two ++ (three ++ four))) (codes "\n")
    (wrote_both one (two ++ (three ++ four)) c.in_ok-put_numbered.ensures
    (wrote_both two (three ++ four) c.in_ok-put_numbered-2.ensures
    (wrote_both three four c.in_ok-put_numbered-3.ensures c.in_ok-put_waiting.ensures)))
    c.put.ensures)

pub returns-in_err-put_numbered : goal.returns-in_err-put_numbered
returns-in_err-put_numbered g c =
    let one : List ℕ = codes "component " ++ decimal c.args.part.id in
    let two : List ℕ = codes " nodes " ++ decimal c.args.part.nodes in
    let three : List ℕ = codes " rejecting " ++ decimal c.args.part.rejecting in
    let four = waiting_tail c.args.simulated c.args.part.waiting in
    failed _ _ c.from_residual.result _ c.from_residual.ensures.0
    (subst (WroteFront _ _ _ _ _ _) (component_text c.args.simulated c.args.part)
    (front_first (one ++ (two ++ (three ++ four))) (codes "\n")
    (front_first one (two ++ (three ++ four)) c.in_err-put_numbered.ensures)))

pub returns-in_err-put_numbered-2 : goal.returns-in_err-put_numbered-2
returns-in_err-put_numbered-2 g c =
    let one : List ℕ = codes "component " ++ decimal c.args.part.id in
    let two : List ℕ = codes " nodes " ++ decimal c.args.part.nodes in
    let three : List ℕ = codes " rejecting " ++ decimal c.args.part.rejecting in
    let four = waiting_tail c.args.simulated c.args.part.waiting in
    failed _ _ c.from_residual-in_err-put_numbered-2.result _
    c.from_residual-in_err-put_numbered-2.ensures.0
    (subst (WroteFront _ _ _ _ _ _) (component_text c.args.simulated c.args.part)
    (front_first (one ++ (two ++ (three ++ four))) (codes "\n")
    (front_later one (two ++ (three ++ four)) c.in_ok-put_numbered.ensures
    (front_first two (three ++ four) c.in_err-put_numbered-2.ensures))))

pub returns-in_err-put_numbered-3 : goal.returns-in_err-put_numbered-3
returns-in_err-put_numbered-3 g c =
    let one : List ℕ = codes "component " ++ decimal c.args.part.id in
    let two : List ℕ = codes " nodes " ++ decimal c.args.part.nodes in
    let three : List ℕ = codes " rejecting " ++ decimal c.args.part.rejecting in
    let four = waiting_tail c.args.simulated c.args.part.waiting in
    failed _ _ c.from_residual-in_err-put_numbered-3.result _
    c.from_residual-in_err-put_numbered-3.ensures.0
    (subst (WroteFront _ _ _ _ _ _) (component_text c.args.simulated c.args.part)
    (front_first (one ++ (two ++ (three ++ four))) (codes "\n")
    (front_later one (two ++ (three ++ four)) c.in_ok-put_numbered.ensures
    (front_later two (three ++ four) c.in_ok-put_numbered-2.ensures
    (front_first three four c.in_err-put_numbered-3.ensures)))))

pub returns-in_err-put_waiting : goal.returns-in_err-put_waiting
returns-in_err-put_waiting g c =
    let one : List ℕ = codes "component " ++ decimal c.args.part.id in
    let two : List ℕ = codes " nodes " ++ decimal c.args.part.nodes in
    let three : List ℕ = codes " rejecting " ++ decimal c.args.part.rejecting in
    let four = waiting_tail c.args.simulated c.args.part.waiting in
    failed _ _ c.from_residual-in_err-put_waiting.result _
    c.from_residual-in_err-put_waiting.ensures.0
    (subst (WroteFront _ _ _ _ _ _) (component_text c.args.simulated c.args.part)
    (front_first (one ++ (two ++ (three ++ four))) (codes "\n")
    (front_later one (two ++ (three ++ four)) c.in_ok-put_numbered.ensures
    (front_later two (three ++ four) c.in_ok-put_numbered-2.ensures
    (front_later three four c.in_ok-put_numbered-3.ensures c.in_err-put_waiting.ensures)))))
