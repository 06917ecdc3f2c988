-- What makes a property, rules and a marker a proof labelling scheme, of functions that say a label
-- for each identity.
use Rattle.std.specs.Prelude.{◌≡◌, ℕ, ◌-◌, ◌^◌, ◌≤◌, Bool, List, Contains}
use Rattle.pls_configuration.specs.declared.row.NodeRow.{NodeRow}
use Rattle.pls_configuration.specs.Configuration.{IsNetwork}
use Rattle.pls_configuration.specs.Walk.{IsConnected}
use Rattle.pls_graph.specs.declared.size.Size.{Size}
use Rattle.pls_graph.specs.Size.{size_of}
use Rattle.pls_numbers.specs.Shape.{Shape}
use Rattle.pls_scheme.specs.Judging.{AllHold}
use Rattle.pls_scheme.specs.Marked.{Fits}
use Rattle.pls_streams.specs.Steps.{capped}
use Rattle.pls_scheme.specs.Reading.{Read, read_where}

-- the rules hold at each node where each label says what the function says
abbrev pub HoldEverywhere : {L : Type 0} → (Read L → List Bool) → List NodeRow → (ℕ → L) → Type 0
HoldEverywhere rules rows say =
    (row : NodeRow) → Contains rows row → AllHold (rules (read_where say row))

-- what the function says is right for each node
abbrev pub AreRightEverywhere : {L : Type 0} → (NodeRow → L → Type 0) → List NodeRow → (ℕ → L)
    → Type 0
AreRightEverywhere says rows say = (row : NodeRow) → Contains rows row → says row (say row.id)

-- rules that hold everywhere show the property of a connected network
abbrev pub RulesShow : {L : Type 0} → (Read L → List Bool) → (List NodeRow → Type 0) → Type 0
RulesShow {L} rules holds =
    (rows : List NodeRow) → IsNetwork rows → IsConnected rows → (say : ℕ → L)
    → HoldEverywhere rules rows say → holds rows

-- the rules hold everywhere in a connected network with the property, where what is said is right
abbrev pub RulesAreMet : {L : Type 0} → (Read L → List Bool) → (List NodeRow → Type 0)
    → (List NodeRow → NodeRow → L → Type 0) → Type 0
RulesAreMet {L} rules holds says =
    (rows : List NodeRow) → IsNetwork rows → IsConnected rows → holds rows → (say : ℕ → L)
    → AreRightEverywhere (says rows) rows say → HoldEverywhere rules rows say

-- for each node of a connected network with the property one label is right
abbrev pub OneIsRight : {L : Type 0} → (List NodeRow → Type 0)
    → (List NodeRow → NodeRow → L → Type 0) → Type 0
OneIsRight {L} holds says =
    (rows : List NodeRow) → IsNetwork rows → IsConnected rows → holds rows
    → (row : NodeRow) (one other : L) → Contains rows row → says rows row one → says rows row other
    → one ≡ other

-- the greatest identity, weight and mark are numbers of 32 bits
pub record AreWords (size : Size) : Type 0 where
  pub max_id : size.max_id ≤ 2 ^ 32 - 1
  pub max_weight : size.max_weight ≤ 2 ^ 32 - 1
  pub max_mark : size.max_mark ≤ 2 ^ 32 - 1

-- what is right everywhere in a connected network with the property can be written, and is short
abbrev pub RightFits : {L : Type 0} → Shape L → (ℕ → List Bool) → (List NodeRow → Type 0)
    → (List NodeRow → NodeRow → L → Type 0) → (Size → ℕ) → Type 0
RightFits {L} shape code holds says longest =
    (rows : List NodeRow) → IsNetwork rows → IsConnected rows → holds rows → AreWords (size_of rows)
    → (say : ℕ → L) → AreRightEverywhere (says rows) rows say → (row : NodeRow) → Contains rows row
    → Fits shape code (capped (longest (size_of rows))) (say row.id)
