use Rattle.pls_labelfile.proofs.LabelsWritten.{word_of_some}
use Rattle.pls_labelfile.proofs.labels_write.put_word.Goals as goal

pub returns : goal.returns
returns g c =
    rw (word_of_some c.args.bits.now (λ none. let no = c.if-is_empty.ensures.1 none in cc no))
    c.put_digits.ensures
