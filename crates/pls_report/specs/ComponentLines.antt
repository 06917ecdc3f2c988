-- What a report says of the components of a network, where there are several.
use Rattle.std.specs.Prelude.{ℕ, Bool, if◌then◌else◌, List, [], ◌∷◌, codes, decimal}
use Rattle.pls_lines.specs.Text.{line_of}
use Rattle.pls_report.specs.declared.component_row.ComponentRow.{ComponentRow}

-- `waiting W`, where the round was played from a schedule
abbrev pub waiting_words : Bool → ℕ → List (List ℕ)
waiting_words simulated count = if simulated then codes "waiting" ∷ decimal count ∷ [] else []

-- `component ID nodes N rejecting R`, or with `waiting W` behind
abbrev pub component_line : Bool → ComponentRow → List ℕ
component_line simulated part =
    line_of (codes "component" ∷ decimal part.id ∷ codes "nodes" ∷ decimal part.nodes
    ∷ codes "rejecting" ∷ decimal part.rejecting ∷ waiting_words simulated part.waiting)

-- what is said of components is said where there are two or more
abbrev pub if_several : {P X : Type 0} → List P → List X → List X
if_several [] said = []
if_several (part ∷ []) said = []
if_several (part ∷ next ∷ others) said = said
