use Rattle.std.proofs.Common.{◌+◌, ◌≤◌, ◌++◌, ◌∷◌, ◌∙◌, [], List, ℕ, ap, append_assoc, arith, codes, length, map, min, subst, sym}
use Rattle.pls_streams.specs.Gathered.{Writes, Wrote, WroteFront}
use Rattle.pls_streams.proofs.Written.{both, failed, front_first, front_later, wrote_both}
use Rattle.pls_lines.specs.Text.{text_of}
use Rattle.pls_configuration.specs.Configuration.{ids_of}
use Rattle.pls_labelfile.specs.LabelsText.{label_line, labelling_of, labels_heading_text, labels_text, named}
use Rattle.pls_labelfile.proofs.LabelsWritten.{lines_behind, lines_so_far, none_behind, one_line_more, whole_text}
use Rattle.pls_labelfile.proofs.labels_write.put_lines.Goals as goal

pub loop-place-preserved : goal.loop-place-preserved
loop-place-preserved g c =
    let rows = c.args.net.now in
    let labels = c.args.labels.now in
    let place : ℕ = c.loop-place.place in
    subst (Wrote _ _ _ _ _ _ _ _)
    (one_line_more c.args.code rows labels place c.node.result.0 c.bits.result c.node.ensures.id c.bits.ensures)
    (wrote_both (text_of (lines_so_far c.args.code rows labels place)) _ c.loop-place.invariant
    c.in_ok-put_label.ensures)

pub returns-in_err-put_label : goal.returns-in_err-put_label
returns-in_err-put_label g c =
    let rows = c.args.net.now in
    let labels = c.args.labels.now in
    let place : ℕ = c.loop-place.place in
    let rest : List ℕ = text_of (lines_behind rows labels (place + 1)) in
    let here =
    front_later (text_of (lines_so_far c.args.code rows labels place)) _ c.loop-place.invariant
    c.in_err-put_label.ensures in
    failed _ _ c.from_residual-in_err-put_label.result _ c.from_residual-in_err-put_label.ensures.0
    (subst (WroteFront _ _ _ _ _ _)
    (ap (λ (front : List ℕ). front ++ rest)
    (one_line_more c.args.code rows labels place c.node.result.0 c.bits.result c.node.ensures.id c.bits.ensures)
    ∙ whole_text c.args.code rows labels (place + 1)) (front_first _ rest here))

pub returns-in_err-put : goal.returns-in_err-put
returns-in_err-put g c =
    let said = labelling_of c.args.code (named (ids_of c.args.net.now) c.args.labels.now) in
    let rest : List ℕ = text_of (map label_line said.labels ++ codes "end" ∷ []) in
    failed _ _ c.from_residual.result (labels_text said) c.from_residual.ensures.0
    (subst (WroteFront _ _ _ _ _ _)
    (append_assoc (labels_heading_text c.args.code) (10 ∷ []) rest)
    (front_first (labels_heading_text c.args.code ++ 10 ∷ []) rest
    (rw c.heading_line.ensures at c.in_err-put.ensures)))

pub returns : goal.returns
returns g c =
    let rows = c.args.net.now in
    let labels = c.args.labels.now in
    let place : ℕ = c.loop-place.place in
    let front : List ℕ = text_of (lines_so_far c.args.code rows labels place) in
    let all : min (length rows) (length labels) ≤ place =
    omega (arith, c.loop-place-test.false, c.min-count.ensures, c.len.ensures.len, c.len-2.ensures)
    in
    subst (Writes _ _ _ _ _ _ _ _ c.put-2.result)
    (ap (λ (lines : List (List ℕ)). front ++ text_of lines)
    (sym (none_behind rows labels place all)) ∙ whole_text c.args.code rows labels place)
    (both _ _ _ _ c.put-2.result front (codes "end\n") c.loop-place.invariant c.put-2.ensures)
