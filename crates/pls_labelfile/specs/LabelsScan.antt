-- What a reader of a labels part has passed, and what it keeps of the part.
use Rattle.std.specs.Prelude.{◌≡◌, ℕ, ◌≤◌, ◌^◌, Bool, List, length, sum_by, All}
use Rattle.pls_lines.specs.Lines.{Left, Passes}
use Rattle.pls_bits.specs.declared.code_name.CodeName.{CodeName}
use Rattle.pls_labelfile.specs.LabelsText.{FitsLabel, Labelling, MayHead, NamedLabel, labelling_of, labels_lines, labels_text}
use Rattle.pls_streams.specs.Steps.{capped}

-- how many bits all labels have together
abbrev pub total_bits : List NamedLabel → ℕ
total_bits labels = sum_by (λ label. length label.bits) labels

-- the code of labels, their text, the number of its heading line, and how many bits the labels have
-- together
pub record WrittenLabels : Type 0 where
  pub code : CodeName
  pub text : List ℕ
  pub number : ℕ
  pub bits : ℕ

-- a text under a code with its heading in this line, and so many bits
abbrev pub written_labels : CodeName → List ℕ → ℕ → ℕ → WrittenLabels
written_labels code text number bits =
    record { code = code; text = text; number = number; bits = bits }

-- this is what the text says
pub record TellsLabels (text : List ℕ) (said : Labelling) : Type 0 where
  pub fits : All FitsLabel said.labels
  pub is : text ≡ labels_text said

-- the text says some labels under the code, and their bits are counted
pub record HasLabels (written : WrittenLabels) : Type 0 where
  pub labels : List NamedLabel
  pub tells : TellsLabels written.text (labelling_of written.code labels)
  pub sum : written.bits ≡ capped (total_bits labels)
  pub within : written.number ≤ 2 ^ 63

-- the reader has passed a labels part that may stand here, and kept its code, its text, its place
-- and the sum of its lengths
pub record PassesPart (delta : Bool) (old new : Left) (written : WrittenLabels) : Type 0 where
  pub labels : List NamedLabel
  pub may : MayHead delta written.code
  pub tells : TellsLabels written.text (labelling_of written.code labels)
  pub passed : Passes old new (labels_lines (labelling_of written.code labels))
  pub heading : written.number ≡ old.number
  pub sum : written.bits ≡ capped (total_bits labels)
