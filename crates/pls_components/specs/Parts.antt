-- What a scheme says of a network whose components are marked and judged each by itself.
use Rattle.std.specs.Prelude.{◌≡◌, ◌≢◌, ◌≤◌, ◌*◌, ℕ, Bool, List, [], All, Contains, length, map, sum_by, ⊤}
use Rattle.pls_configuration.specs.declared.row.NodeRow.{NodeRow}
use Rattle.pls_configuration.specs.declared.verdict.Verdict.{Verdict}
use Rattle.pls_configuration.specs.declared.verdict.Verdict.TheVariants.{Accept}
use Rattle.pls_configuration.specs.Rising.{IsRising}
use Rattle.pls_streams.specs.Steps.{capped}
use Rattle.pls_graph.specs.declared.size.Size.{Size}
use Rattle.pls_graph.specs.Size.{greatest, size_of}
use Rattle.pls_labels.specs.Seen.{Seen, views}
use Rattle.pls_scheme.specs.Judging.{AllAccept}
use Rattle.pls_components.specs.Components.{FitsInEach, HasInEach, IsComponent, items_at, least_id}
use Rattle.pls_components.specs.declared.mark_result.MarkResult.{MarkResult}
use Rattle.pls_components.specs.declared.mark_result.MarkResult.TheVariants.{Labels, Lacking}

-- the nodes at these places accept what they see in the whole network
abbrev pub AcceptAt : (Seen → Verdict) → List NodeRow → List (List Bool) → List ℕ → Type 0
AcceptAt judge rows labels places =
    All (λ view. judge view ≡ Accept) (items_at (views rows labels) places)

-- these are the places of a component, and it lacks the property
pub record LacksIn (holds : List NodeRow → Type 0) (rows : List NodeRow) (places : List ℕ)
    : Type 0 where
  pub component : IsComponent rows places
  pub lacks : holds (items_at rows places) → ⊥

-- these are the smallest identities of the components that lack the property, rising, and there is
-- at least one such component
pub record AreLacking (holds : List NodeRow → Type 0) (rows : List NodeRow) (ids : List ℕ)
    : Type 0 where
  pub some : ids ≢ []
  pub rising : IsRising ids
  pub each : (id : ℕ) → Contains ids id
      → (places : List ℕ) × LacksIn holds rows places × (least_id rows places ≡ id)
  pub all : (places : List ℕ) → LacksIn holds rows places → Contains ids (least_id rows places)

-- each label of a network is within the bound for its size
abbrev pub AreWithinBound : (Size → ℕ) → List NodeRow → List (List Bool) → Type 0
AreWithinBound longest rows labels =
    All (λ label. length label ≤ capped (longest (size_of rows))) labels

-- each component has the property, and the labels of the network show it: there is one for each
-- node, those of each component are marked labels of it by itself and within its bound, and all
-- nodes accept
pub record AreShown (holds : List NodeRow → Type 0)
    (marked : List NodeRow → List (List Bool) → Type 0) (judge : Seen → Verdict)
    (longest : Size → ℕ) (rows : List NodeRow) (labels : List (List Bool)) : Type 0 where
  pub has : HasInEach holds rows
  pub each : length labels ≡ length rows
  pub right : FitsInEach marked rows labels
  pub accepted : AllAccept judge rows labels
  pub short : FitsInEach (AreWithinBound longest) rows labels

-- what is said of the labels, where the marking came to labels
abbrev pub IfLabels : (List (List Bool) → Type 0) → MarkResult → Type 0
IfLabels shown (Labels labels) = shown labels
IfLabels shown (Lacking ids) = ⊤

-- what is said of the identities, where some components lack the property
abbrev pub IfLacking : (List ℕ → Type 0) → MarkResult → Type 0
IfLacking lacking (Labels labels) = ⊤
IfLacking lacking (Lacking ids) = lacking ids

-- how many bits a marked label has at most, where each component is marked by itself: the greatest
-- of the bounds for the components
abbrev pub bound_of_parts : (Size → ℕ) → List NodeRow → List (List ℕ) → ℕ
bound_of_parts longest rows parts =
    greatest (map (λ places. longest (size_of (items_at rows places))) parts)

-- how many bits the marked labels have together at most: the sum over the components of nodes times
-- bound
abbrev pub room_of_parts : (Size → ℕ) → List NodeRow → List (List ℕ) → ℕ
room_of_parts longest rows parts =
    sum_by (λ places. length places * longest (size_of (items_at rows places))) parts
