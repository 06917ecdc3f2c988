-- Rule 6, tried on right labels, decides whether some spanning tree is lighter.
use Rattle.std.proofs.Common.{◌≡◌, ◌↔◌, ℕ, Bool, true, List, Contains, IsTrue}
use Rattle.pls_configuration.specs.declared.row.NodeRow.{NodeRow}
use Rattle.pls_configuration.specs.Configuration.{IsNetwork}
use Rattle.pls_configuration.specs.Walk.{IsConnected}
use Rattle.pls_facts.specs.MinimumSpanningTree.{IsMinimumSpanningTree}
use Rattle.pls_facts.specs.SpanningTree.{IsTree}
use Rattle.pls_scheme.specs.Marked.{AreRight, AreSaidBy}
use Rattle.pls_scheme.specs.Reading.{read_where}
use Rattle.pls_scheme.proofs.Markings.{IsSaidBy, said_by_id}
use Rattle.pls_pathmax.specs.Labels.{PathMaxLabel}
use Rattle.pls_pathmax.specs.PathMax.{PathMaxSays}
use Rattle.pls_pathmax.specs.Rules.{other_edges_are_heavy}
use Rattle.pls_pathmax.specs.laws.PathMaxLaws.{decided_by_ports}

-- what is told of labels is whether rule 6 holds at every node
abbrev pub TellsRule6 : List NodeRow → List PathMaxLabel → Bool → Type 0
TellsRule6 rows labels told = (say : ℕ → PathMaxLabel) → AreSaidBy say rows labels → IsTrue told
    ↔ ((row : NodeRow) → Contains rows row → other_edges_are_heavy (read_where say row) ≡ true)

pub decided : (rows : List NodeRow) → IsNetwork rows → IsConnected rows → IsTree rows
    → (labels : List PathMaxLabel) → AreRight (PathMaxSays rows) rows labels → (told : Bool)
    → TellsRule6 rows labels told → IsTrue told ↔ IsMinimumSpanningTree rows
decided rows net joined is_tree labels right told tells = (
  λ yes. law.0 ((tells said.say said.at).0 yes),
  λ holds. (tells said.say said.at).1 (law.1 holds),
)
  where
    said : IsSaidBy (PathMaxSays rows) rows labels
    said = said_by_id (PathMaxSays rows) rows net labels right

    law : ((row : NodeRow) → Contains rows row
        → other_edges_are_heavy (read_where said.say row) ≡ true) ↔ IsMinimumSpanningTree rows
    law = decided_by_ports rows net joined is_tree said.say said.right
