-- A property that is decided by rules, tried on labels that are right if it holds.
use Rattle.std.proofs.Common.{◌↔◌, ℕ, Bool, List, IsTrue}
use Rattle.pls_configuration.specs.declared.row.NodeRow.{NodeRow}
use Rattle.pls_configuration.specs.Configuration.{IsNetwork}
use Rattle.pls_configuration.specs.Walk.{IsConnected}
use Rattle.pls_scheme.specs.Marked.{AreRight, AreSaidBy}
use Rattle.pls_scheme.specs.Reading.{Read}
use Rattle.pls_scheme.specs.Theorem.{HoldEverywhere, RulesAreMet, RulesShow}
use Rattle.pls_scheme.proofs.Markings.{IsSaidBy, said_by_id}

-- where the rules hold of such labels, and only there, the network has the property
pub decided_by_rules : {L : Type 0} (rules : Read L → List Bool) (holds : List NodeRow → Type 0)
    (says : List NodeRow → NodeRow → L → Type 0) → RulesShow rules holds
    → RulesAreMet rules holds says → (rows : List NodeRow) → IsNetwork rows → IsConnected rows
    → (labels : List L) → AreRight (says rows) rows labels → (told : Bool)
    → ((say : ℕ → L) → AreSaidBy say rows labels → IsTrue told ↔ HoldEverywhere rules rows say)
    → IsTrue told ↔ holds rows
decided_by_rules rules holds says show met rows net joined labels right told tells = (
  λ yes. show rows net joined said.say ((tells said.say said.at).0 yes),
  λ has. (tells said.say said.at).1 (met rows net joined has said.say said.right),
)
  where
    said : IsSaidBy (says rows) rows labels
    said = said_by_id (says rows) rows net labels right
