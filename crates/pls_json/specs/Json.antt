-- The text of a report in JSON: one line, with no space, and the keys of each object in the order
-- of the alphabet.
use Rattle.std.specs.Prelude.{ℕ, List, [], ◌∷◌, ◌++◌, codes, decimal, map}
use Rattle.pls_configuration.specs.declared.verdict.Verdict.TheVariants.{Accept, Reject}
use Rattle.pls_sim.specs.declared.outcome.Outcome.{Outcome}
use Rattle.pls_sim.specs.declared.outcome.Outcome.TheVariants.{Decided, Waiting}
use Rattle.pls_report.specs.ComponentLines.{if_several}
use Rattle.pls_report.specs.Report.{rejecting, waiting}
use Rattle.pls_report.specs.declared.component_row.ComponentRow.{ComponentRow}

-- texts, each behind a comma, which is 44
abbrev pub behind_commas : List (List ℕ) → List ℕ
behind_commas [] = []
behind_commas (text ∷ texts) = 44 ∷ (text ++ behind_commas texts)

-- texts with a comma between each two
abbrev pub with_commas : List (List ℕ) → List ℕ
with_commas [] = []
with_commas (text ∷ texts) = text ++ behind_commas texts

-- what stands in the object of a node behind its identity
abbrev pub outcome_text : Outcome → List ℕ
outcome_text (Decided Accept) = codes "\"verdict\":\"accept\"}"
outcome_text (Decided (Reject leaf rule)) =
    codes "\"leaf\":" ++ (decimal leaf ++ (codes ",\"rule\":" ++ (decimal rule
    ++ codes ",\"verdict\":\"reject\"}")))
outcome_text (Waiting ports) =
    codes "\"ports\":[" ++ (with_commas (map decimal ports) ++ codes "],\"verdict\":\"waiting\"}")

-- the object of a node
abbrev pub node_text : ℕ × Outcome → List ℕ
node_text row = codes "{\"id\":" ++ (decimal row.0 ++ (44 ∷ outcome_text row.1))

-- the object of a component
abbrev pub component_text : ComponentRow → List ℕ
component_text part =
    codes "{\"id\":" ++ (decimal part.id ++ (codes ",\"nodes\":" ++ (decimal part.nodes
    ++ (codes ",\"rejecting\":" ++ (decimal part.rejecting ++ (codes ",\"waiting\":"
    ++ (decimal part.waiting ++ codes "}")))))))

-- the components, where there are two or more
abbrev pub components_text : List ComponentRow → List ℕ
components_text parts = if_several parts
    (codes "\"components\":[" ++ (with_commas (map component_text parts) ++ codes "],"))

-- the whole text, with its line feed: } is 125, and a line feed 10
abbrev pub json_text : List ComponentRow → List (ℕ × Outcome) → List ℕ
json_text parts rows =
    codes "{" ++ (components_text parts ++ (codes "\"nodes\":["
    ++ (with_commas (map node_text rows) ++ (codes "],\"rejecting\":"
    ++ (decimal (rejecting rows) ++ (codes ",\"waiting\":"
    ++ (decimal (waiting rows) ++ (125 ∷ 10 ∷ []))))))))
