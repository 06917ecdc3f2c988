-- What a call of a scheme has done, as one fact, whichever the scheme is.
use Rattle.std.specs.Prelude.{◌↔◌, Bool, List, Option, Result, IfOk, IsTrue}
use Rattle.std.specs.Option.{IfNone, IfSome}
use Rattle.pls_configuration.specs.declared.row.NodeRow.{NodeRow}
use Rattle.pls_configuration.specs.declared.verdict.Verdict.{Verdict}
use Rattle.pls_labels.specs.Seen.{Seen}
use Rattle.pls_scheme.specs.Judging.{AllAccept}

-- whether the rows have the property is decided
pub record IsDecided {E : Type 0} (holds : List NodeRow → Type 0) (rows : List NodeRow)
    (result : Result Bool E) : Type 0 where
  pub is : IfOk result (λ yes. IsTrue yes ↔ holds rows)

-- the labels are those that prove the property, or it fails
pub record IsMarking {E : Type 0} (holds : List NodeRow → Type 0) (judge : Seen → Verdict)
    (rows : List NodeRow) (result : Result (Option (List (List Bool))) E) : Type 0 where
  pub lacking : IfOk result (λ found. IfNone found (holds rows → ⊥))
  pub has : IfOk result (λ found. IfSome found (λ labels. holds rows))
  pub accepted : IfOk result (λ found. IfSome found (λ labels. AllAccept judge rows labels))
