-- The sentence of a proof labelling scheme (Korman, Kutten and Peleg 2010, section 2), on a
-- network.
use Rattle.std.specs.Prelude.{◌≡◌, ◌≢◌, ℕ, ◌≤◌, Bool, List, length, All, Contains}
use Rattle.pls_configuration.specs.declared.row.NodeRow.{NodeRow}
use Rattle.pls_configuration.specs.declared.verdict.Verdict.{Verdict}
use Rattle.pls_configuration.specs.declared.verdict.Verdict.TheVariants.{Accept}
use Rattle.pls_graph.specs.declared.size.Size.{Size}
use Rattle.pls_graph.specs.Size.{size_of}
use Rattle.pls_labels.specs.Seen.{Seen, views}
use Rattle.pls_scheme.specs.Judging.{AllAccept}
use Rattle.pls_streams.specs.Steps.{capped}

-- the labels are one for each node, each of at most so many bits, and all nodes accept them
pub record AreAccepted (judge : Seen → Verdict) (most : ℕ) (rows : List NodeRow)
    (labels : List (List Bool)) : Type 0 where
  pub each : length labels ≡ length rows
  pub short : All (λ label. length label ≤ most) labels
  pub accepted : AllAccept judge rows labels

-- some node rejects what it sees
pub record SomeNodeRejects (judge : Seen → Verdict) (rows : List NodeRow)
    (labels : List (List Bool)) : Type 0 where
  pub view : Seen
  pub seen : Contains (views rows labels) view
  pub rejects : judge view ≢ Accept

-- where the network has the property there are labels within the bound that all nodes accept, and
-- where it lacks it some node rejects, whatever the labels are
pub record IsScheme (judge : Seen → Verdict) (holds : List NodeRow → Type 0)
    (longest : Size → ℕ) (rows : List NodeRow) : Type 0 where
  pub complete : holds rows → (labels : List (List Bool))
      × AreAccepted judge (capped (longest (size_of rows))) rows labels
  pub sound : ¬ holds rows → (labels : List (List Bool)) → length labels ≡ length rows
      → SomeNodeRejects judge rows labels
