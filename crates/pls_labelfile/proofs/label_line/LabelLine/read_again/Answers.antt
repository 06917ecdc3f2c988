use Rattle.pls_labelfile.proofs.LabelWords.{said_hex, words_fit, words_stand}
use Rattle.pls_labelfile.proofs.label_line.LabelLine.read_again.Goals as goal

pub invariant_of-result : goal.invariant_of-result
invariant_of-result c =
    said_hex c.args.text.now c.in_ok-id.id c.in_ok-id.len c.in_ok-id.hex.now c.in_ok-id.rest.now
    c.in_ok-id.ensures.id c.in_ok-id.ensures.short c.in_ok-id.ensures.long
    c.in_ok-id.ensures.stands c.requires

pub returns-clause-fits : goal.returns-clause-fits
returns-clause-fits c =
    words_fit c.args.text.now c.in_ok-id.id c.in_ok-id.len c.in_ok-id.hex.now c.in_ok-id.rest.now
    c.in_ok-id.ensures.id c.in_ok-id.ensures.short c.in_ok-id.ensures.long
    c.in_ok-id.ensures.stands (invariant_of-result c)

pub returns-clause-stands : goal.returns-clause-stands
returns-clause-stands c =
    words_stand c.args.text.now c.in_ok-id.id c.in_ok-id.len c.in_ok-id.hex.now c.in_ok-id.rest.now
    c.in_ok-id.ensures.id c.in_ok-id.ensures.short c.in_ok-id.ensures.long
    c.in_ok-id.ensures.stands (invariant_of-result c)
