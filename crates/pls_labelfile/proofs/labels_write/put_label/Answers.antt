use Rattle.std.proofs.Common.{◌++◌, List, ℕ, codes, decimal, length, subst}
use Rattle.pls_streams.specs.Gathered.{Writes, WroteFront}
use Rattle.pls_streams.proofs.Written.{both, failed, front_first, front_later}
use Rattle.pls_labelfile.specs.LabelsText.{hex_word}
use Rattle.pls_labelfile.proofs.LabelsWritten.{line_written}
use Rattle.pls_labelfile.proofs.labels_write.put_label.Goals as goal

pub returns : goal.returns
returns g c =
    let bits = c.args.bits.now in
    let id : List ℕ = codes "label " ++ decimal c.args.id in
    let len : List ℕ = codes " " ++ decimal (length bits) in
    let word : List ℕ = hex_word bits in
    let last : List ℕ = word ++ codes "\n" in
    let second = rw c.len.ensures at c.in_ok-put_numbered-2.ensures in
    subst (Writes _ _ _ _ _ _ _ _ c.put-2.result)
    (line_written c.args.id (length bits) word)
    (both _ _ _ _ c.put-2.result id (len ++ (codes " " ++ last)) c.in_ok-put_numbered.ensures
    (both _ _ _ _ c.put-2.result len (codes " " ++ last) second
    (both _ _ _ _ c.put-2.result (codes " ") last c.in_ok-put.ensures
    (both _ _ _ _ c.put-2.result word (codes "\n") c.in_ok-put_word.ensures c.put-2.ensures))))

pub returns-in_err-put_numbered : goal.returns-in_err-put_numbered
returns-in_err-put_numbered g c =
    let bits = c.args.bits.now in
    let id : List ℕ = codes "label " ++ decimal c.args.id in
    let len : List ℕ = codes " " ++ decimal (length bits) in
    let word : List ℕ = hex_word bits in
    let last : List ℕ = word ++ codes "\n" in
    failed _ _ c.from_residual.result _ c.from_residual.ensures.0
    (subst (WroteFront _ _ _ _ _ _) (line_written c.args.id (length bits) word)
    (front_first id (len ++ (codes " " ++ last)) c.in_err-put_numbered.ensures))

pub returns-in_err-put_numbered-2 : goal.returns-in_err-put_numbered-2
returns-in_err-put_numbered-2 g c =
    let bits = c.args.bits.now in
    let id : List ℕ = codes "label " ++ decimal c.args.id in
    let len : List ℕ = codes " " ++ decimal (length bits) in
    let word : List ℕ = hex_word bits in
    let last : List ℕ = word ++ codes "\n" in
    let second = rw c.len.ensures at c.in_err-put_numbered-2.ensures in
    failed _ _ c.from_residual-in_err-put_numbered-2.result _ c.from_residual-in_err-put_numbered-2.ensures.0
    (subst (WroteFront _ _ _ _ _ _) (line_written c.args.id (length bits) word)
    (front_later id (len ++ (codes " " ++ last)) c.in_ok-put_numbered.ensures
    (front_first len (codes " " ++ last) second)))

pub returns-in_err-put : goal.returns-in_err-put
returns-in_err-put g c =
    let bits = c.args.bits.now in
    let id : List ℕ = codes "label " ++ decimal c.args.id in
    let len : List ℕ = codes " " ++ decimal (length bits) in
    let word : List ℕ = hex_word bits in
    let last : List ℕ = word ++ codes "\n" in
    let second = rw c.len.ensures at c.in_ok-put_numbered-2.ensures in
    failed _ _ c.from_residual-in_err-put.result _ c.from_residual-in_err-put.ensures.0
    (subst (WroteFront _ _ _ _ _ _) (line_written c.args.id (length bits) word)
    (front_later id (len ++ (codes " " ++ last)) c.in_ok-put_numbered.ensures
    (front_later len (codes " " ++ last) second
    (front_first (codes " ") last c.in_err-put.ensures))))

pub returns-in_err-put_word : goal.returns-in_err-put_word
returns-in_err-put_word g c =
    let bits = c.args.bits.now in
    let id : List ℕ = codes "label " ++ decimal c.args.id in
    let len : List ℕ = codes " " ++ decimal (length bits) in
    let word : List ℕ = hex_word bits in
    let last : List ℕ = word ++ codes "\n" in
    let second = rw c.len.ensures at c.in_ok-put_numbered-2.ensures in
    failed _ _ c.from_residual-in_err-put_word.result _ c.from_residual-in_err-put_word.ensures.0
    (subst (WroteFront _ _ _ _ _ _) (line_written c.args.id (length bits) word)
    (front_later id (len ++ (codes " " ++ last)) c.in_ok-put_numbered.ensures
    (front_later len (codes " " ++ last) second
    (front_later (codes " ") last c.in_ok-put.ensures
    (front_first word (codes "\n") c.in_err-put_word.ensures)))))
