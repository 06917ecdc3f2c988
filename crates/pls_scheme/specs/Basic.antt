-- What a basic scheme means, by how its labels are lists of numbers.
use Rattle.std.specs.Prelude.{ℕ, Bool, List, Option}
use Rattle.pls_configuration.specs.declared.row.NodeRow.{NodeRow}
use Rattle.pls_configuration.specs.declared.verdict.Verdict.{Verdict}
use Rattle.pls_graph.specs.declared.size.Size.{Size}
use Rattle.pls_numbers.specs.Shape.{IsSpelled, Shape, said_by}
use Rattle.pls_labels.specs.Seen.{Seen}
use Rattle.pls_scheme.specs.Length.{codes_length}
use Rattle.pls_scheme.specs.Marked.{IsMarkedBy}
use Rattle.pls_scheme.specs.Reading.{Read, judge_by}

-- the verdict on a view by rules, with labels read by what takes a code off the front of bits
abbrev pub verdict_by : {L : Type 0} → Shape L → (Read L → List Bool)
    → (List Bool → Option (ℕ × List Bool)) → Seen → Verdict
verdict_by shape rules takes view = judge_by (said_by shape takes) rules view

-- the bits are some label, in a code
abbrev pub IsSomeLabel : {L : Type 0} → Shape L → (ℕ → List Bool) → List Bool → Type 0
IsSomeLabel {L} shape code bits = (label : L) × IsSpelled shape code bits label

-- the label of each node is in this code, and says what is right for the node
abbrev pub AreMarkedBy : {L : Type 0} → Shape L → (List NodeRow → NodeRow → L → Type 0)
    → (ℕ → List Bool) → List NodeRow → List (List Bool) → Type 0
AreMarkedBy shape says code rows labels =
    IsMarkedBy (IsSpelled shape code) (says rows) rows labels

-- how many bits a label has at most whose numbers are within these limits
abbrev pub longest_by : {L : Type 0} → Shape L → (Size → List ℕ) → (ℕ → List Bool) → Size → ℕ
longest_by shape limits code size = codes_length code shape.kinds (limits size)
