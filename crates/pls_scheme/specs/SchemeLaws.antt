-- What the laws of schemes and of their layouts say.
use Rattle.std.specs.Prelude.{◌≡◌, ◌↔◌, ℕ, Bool, List, length, Option, Some}
use Rattle.pls_configuration.specs.declared.row.NodeRow.{NodeRow}
use Rattle.pls_configuration.specs.declared.verdict.Verdict.{Verdict}
use Rattle.pls_configuration.specs.Configuration.{IsNetwork}
use Rattle.pls_configuration.specs.Walk.{IsConnected}
use Rattle.pls_labels.specs.Seen.{Seen}
use Rattle.pls_scheme.specs.Judging.{AllAccept, LeafWithin}

-- each rejection names one of the leaves, or 0
abbrev pub LeavesWithin : ℕ → (Seen → Verdict) → Type 0
LeavesWithin leaves judge = (view : Seen) → LeafWithin leaves (judge view)

-- a connected network whose nodes all accept some labels has the property
abbrev pub IsSound : (Seen → Verdict) → (List NodeRow → Type 0) → Type 0
IsSound judge holds =
    (rows : List NodeRow) (labels : List (List Bool)) → IsNetwork rows → IsConnected rows
    → length labels ≡ length rows → AllAccept judge rows labels → holds rows

-- each label that can be written has a spelling
abbrev pub HasSpellings : {L : Type 0} → (L → Type 0) → (List Bool → L → Type 0) → Type 0
HasSpellings {L} writable layout = (label : L) → writable label
    → (bits : List Bool) × layout bits label

-- bits that are one label are equal
abbrev pub HaveOneSpelling : {L : Type 0} → (List Bool → L → Type 0) → Type 0
HaveOneSpelling {L} layout = (label : L) (a b : List Bool) → layout a label → layout b label → a ≡ b

-- bits are at most one label
abbrev pub AreOneLabel : {L : Type 0} → (List Bool → L → Type 0) → Type 0
AreOneLabel {L} layout = (bits : List Bool) (a b : L) → layout bits a → layout bits b → a ≡ b

-- bits say a label exactly where they are its spelling
abbrev pub SaysWhatIsSpelled : {L : Type 0} → (List Bool → Option L) → (List Bool → L → Type 0)
    → Type 0
SaysWhatIsSpelled {L} said spells = (bits : List Bool) (label : L)
    → (said bits ≡ Some label) ↔ spells bits label

-- a connected network with the property is marked in one way
abbrev pub IsMarkedOnce : (List NodeRow → Type 0) → (List NodeRow → List (List Bool) → Type 0)
    → Type 0
IsMarkedOnce holds marked =
    (rows : List NodeRow) (labels others : List (List Bool)) → IsNetwork rows → IsConnected rows
    → holds rows → marked rows labels → marked rows others → labels ≡ others
