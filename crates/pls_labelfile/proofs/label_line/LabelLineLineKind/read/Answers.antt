use Rattle.std.proofs.lemmas.Bool.{both_ways}
use Rattle.pls_lines.specs.laws.LineWords.{stands_next}
use Rattle.pls_labelfile.specs.LabelsText.{FitsLabel, label_line}
use Rattle.pls_labelfile.proofs.LabelWords.{says_hex, words_fit, words_stand}
use Rattle.pls_labelfile.proofs.label_line.LabelLineLineKind.read.Goals as goal

pub returns-then-is_hex_word-clause-fits : goal.returns-then-is_hex_word-clause-fits
returns-then-is_hex_word-clause-fits c =
    words_fit c.args.text.now c.in_ok-id.id c.in_ok-id.len c.in_ok-id.hex.now c.in_ok-id.rest.now
    c.in_ok-id.ensures.id c.in_ok-id.ensures.short c.in_ok-id.ensures.long
    c.in_ok-id.ensures.stands (c.is_hex_word.ensures.0 c.if-is_hex_word.true)

pub returns-then-is_hex_word-clause-stands : goal.returns-then-is_hex_word-clause-stands
returns-then-is_hex_word-clause-stands c =
    words_stand c.args.text.now c.in_ok-id.id c.in_ok-id.len c.in_ok-id.hex.now c.in_ok-id.rest.now
    c.in_ok-id.ensures.id c.in_ok-id.ensures.short c.in_ok-id.ensures.long
    c.in_ok-id.ensures.stands (c.is_hex_word.ensures.0 c.if-is_hex_word.true)

pub returns-else-is_hex_word-clause-none : goal.returns-else-is_hex_word-clause-none
returns-else-is_hex_word-clause-none c = λ next.
    let line = stands_next FitsLabel label_line c.args.text.now next in
    both_ways _ c.if-is_hex_word.false (c.is_hex_word.ensures.1
    (says_hex c.args.text.now c.in_ok-id.id c.in_ok-id.len c.in_ok-id.hex.now c.in_ok-id.rest.now
    c.in_ok-id.ensures.id c.in_ok-id.ensures.short c.in_ok-id.ensures.long
    c.in_ok-id.ensures.stands line.value line.rest line.fits line.is))
