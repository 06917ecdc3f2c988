-- What the words of a line say, where the word for a label's bits is lent.
use Rattle.std.specs.Prelude.{ℕ, length, ⊤}
use Rattle.pls_labelfile.specs.LabelsText.{NamedLabel}
use Rattle.pls_edits.specs.declared.edit.Edit.{Edit}
use Rattle.pls_edits.specs.declared.edit.Edit.TheVariants.{State, Weight, Link, Unlink, Join, Leave, Label}
use Rattle.pls_edits.specs.declared.edit_line.EditLine.{EditLine}
use Rattle.pls_edits.specs.declared.edit_line.EditLine.TheVariants.{Edit as Makes, Round}
use Rattle.pls_edits.specs.declared.edit_words.Words.{Words}
use Rattle.pls_edits.specs.declared.edit_words.Words.TheVariants.{Label as Lent, Plain}

-- the edit that gives a node its label
abbrev pub labelling : NamedLabel → EditLine
labelling label = Makes (Label label.id label.bits)

-- the line that the words say
abbrev pub line_said : Words → EditLine
line_said (Lent label) = labelling label
line_said (Plain line) = line

-- the edit gives no label
abbrev pub IsPlainEdit : Edit → Type 0
IsPlainEdit (State id state) = ⊤
IsPlainEdit (Weight a b weight) = ⊤
IsPlainEdit (Link a b weight) = ⊤
IsPlainEdit (Unlink a b) = ⊤
IsPlainEdit (Join id mark num) = ⊤
IsPlainEdit (Leave id) = ⊤
IsPlainEdit (Label id bits) = ⊥

-- the line gives no label
abbrev pub IsPlain : EditLine → Type 0
IsPlain (Makes edit) = IsPlainEdit edit
IsPlain Round = ⊤

-- how many bits the label has that the line gives
abbrev pub bits_of : EditLine → ℕ
bits_of (Makes (Label id bits)) = length bits
bits_of line = 0
