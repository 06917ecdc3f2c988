-- A tree of pointers by places, and what is left of it on a level.
use Rattle.std.specs.Prelude.{◌≡◌, ℕ, ◌<◌, ◌≤◌, ◌⊎◌, ◌||◌, Bool, true, false, if◌then◌else◌, List, length, slice_get, slice_index_or, Contains, Option, Some, None}
use Rattle.std.specs.Option.{option_and_then, option_map_or}
use Rattle.pls_configuration.specs.declared.row.NodeRow.{NodeRow}
use Rattle.pls_configuration.specs.Configuration.{IsNetwork, ids_of}
use Rattle.pls_configuration.specs.Walk.{Edge}
use Rattle.pls_facts.specs.Parents.{ChainMeets}
use Rattle.pls_facts.specs.Pointer.{pointed_node, pointed_port}
use Rattle.pls_facts.specs.SpanningTree.{IsTree, pointed_edges}
use Rattle.pls_facts.specs.Weight.{edge_weight}
use Rattle.pls_search.specs.SubtreeSizes.{HasParentAt}
use Rattle.pls_centroid.specs.Centroid.{centroid_of, is_central}
use Rattle.pls_centroid.specs.inner.Cut.{IsCut, id_at}

-- for each place the place that its node points at
pub record ArePointed (rows : List NodeRow) (parents : List (Option ℕ)) : Type 0 where
  pub each : length parents ≡ length rows
  pub to : (place parent : ℕ) → HasParentAt parents place parent
      → (parent < length rows) × (pointed_node rows (id_at rows place) ≡ Some (id_at rows parent))
  pub from : (place parent : ℕ) → place < length rows → parent < length rows
      → pointed_node rows (id_at rows place) ≡ Some (id_at rows parent)
      → HasParentAt parents place parent

-- for each place the weight of the edge to its parent
pub record AreWeightsUp (rows : List NodeRow) (parents : List (Option ℕ)) (weights : List ℕ)
    : Type 0 where
  pub each : length weights ≡ length rows
  pub weight : (place parent weight : ℕ) → HasParentAt parents place parent
      → slice_get weights place ≡ Some weight
      → weight ≡ edge_weight rows (id_at rows place) (id_at rows parent)

-- all places, each behind its parent
pub record AreBehindParents (parents : List (Option ℕ)) (order : List ℕ) : Type 0 where
  pub within : (number place : ℕ) → slice_get order number ≡ Some place → place < length parents
  pub all : (place : ℕ) → place < length parents
      → (number : ℕ) × (slice_get order number ≡ Some place)
  pub behind : (number place before parent : ℕ) → slice_get order number ≡ Some place
      → HasParentAt parents place parent → slice_get order before ≡ Some parent → before < number

-- the parent of a place that is left, where neither of the two is taken away
abbrev pub left_of : List (Option ℕ) → List Bool → ℕ → Option ℕ
left_of parents taken place = option_and_then (λ parent.
    if slice_index_or taken place false || slice_index_or taken parent false then None
    else Some parent) (slice_index_or parents place None)

-- so it is for each place
pub record AreLeft (parents : List (Option ℕ)) (taken : List Bool) (left : List (Option ℕ))
    : Type 0 where
  pub each : length left ≡ length parents
  pub entry : (place : ℕ) (found : Option ℕ) → slice_get left place ≡ Some found
      → found ≡ left_of parents taken place

-- the chain of parents of a place ends at this one
pub record IsTopOf (left : List (Option ℕ)) (place top : ℕ) : Type 0 where
  pub inside : top < length left
  pub meets : ChainMeets (HasParentAt left) place top
  pub ends : (parent : ℕ) → HasParentAt left top parent → ⊥

-- so it does for each place
pub record AreTopsOf (left : List (Option ℕ)) (tops : List ℕ) : Type 0 where
  pub each : length tops ≡ length left
  pub top : (place top : ℕ) → slice_get tops place ≡ Some top → IsTopOf left place top

-- the greatest of the sizes of the first places whose parent a place is, or 0
pub record IsGreatestBelow (left : List (Option ℕ)) (sizes : List ℕ) (count place greatest : ℕ)
    : Type 0 where
  pub most : (child size : ℕ) → child < count → HasParentAt left child place
      → slice_get sizes child ≡ Some size → size ≤ greatest
  pub one : (greatest ≡ 0) ⊎ ((child : ℕ) × HasParentAt left child place
      × (slice_get sizes child ≡ Some greatest))

-- at each top the place of the centroid of its piece
pub record AreCentroidsOf (rows : List NodeRow) (edges : List Edge) (tops : List ℕ)
    (centroids : List (Option ℕ)) : Type 0 where
  pub each : length centroids ≡ length rows
  pub centroid : (place top : ℕ) → slice_get tops place ≡ Some top
      → (c : ℕ) × (slice_get centroids top ≡ Some (Some c)) × (c < length rows)
      × (centroid_of edges (ids_of rows) (id_at rows place) ≡ Some (id_at rows c))

-- the first of the first places of the piece of a top that is central, if there is one
abbrev pub IsFirstCentral : List NodeRow → List Edge → List ℕ → ℕ → ℕ → Option ℕ → Type 0
IsFirstCentral rows edges tops count top None = (place : ℕ) → place < count
    → slice_get tops place ≡ Some top → is_central edges (ids_of rows) (id_at rows place) ≡ false
IsFirstCentral rows edges tops count top (Some c) = (c < count) × (slice_get tops c ≡ Some top)
    × (is_central edges (ids_of rows) (id_at rows c) ≡ true)
    × ((place : ℕ) → place < c → slice_get tops place ≡ Some top
    → is_central edges (ids_of rows) (id_at rows place) ≡ false)

-- so it is at each top
pub record AreFirstCentral (rows : List NodeRow) (edges : List Edge) (tops : List ℕ) (count : ℕ)
    (centroids : List (Option ℕ)) : Type 0 where
  pub each : length centroids ≡ length rows
  pub first : (top : ℕ) (found : Option ℕ) → slice_get centroids top ≡ Some found
      → IsFirstCentral rows edges tops count top found

-- the tops of the first places in an order are right
abbrev pub AreTopsSoFar : List (Option ℕ) → List ℕ → ℕ → List ℕ → Type 0
AreTopsSoFar left order count tops = (number place top : ℕ) → number < count
    → slice_get order number ≡ Some place → slice_get tops place ≡ Some top → IsTopOf left place top

-- the top of a place, by those of other places: that of its parent, or the place itself
abbrev pub top_by : List (Option ℕ) → List ℕ → ℕ → ℕ
top_by left tops place =
    option_map_or (λ parent. slice_index_or tops parent 0) (slice_index_or left place None) place

-- the first central place, with one place more
abbrev pub first_of : Option ℕ → Bool → ℕ → Option ℕ
first_of (Some c) central place = Some c
first_of None central place = if central then Some place else None

-- for each place the greatest of the sizes of those of the first places whose parent it is
pub record AreGreatestBelow (left : List (Option ℕ)) (sizes : List ℕ) (count : ℕ)
    (greatest : List ℕ) : Type 0 where
  pub each : length greatest ≡ length left
  pub most : (place most : ℕ) → slice_get greatest place ≡ Some most
      → IsGreatestBelow left sizes count place most

-- a level of a tree: the parents that are left along its edges, and the tops of its pieces
pub record IsStage (rows : List NodeRow) (edges : List Edge) (left : List (Option ℕ))
    (tops : List ℕ) : Type 0 where
  pub net : IsNetwork rows
  pub tree : IsTree rows
  pub among : (edge : Edge) → Contains edges edge → Contains (pointed_edges rows) edge
  pub cut : IsCut rows edges left
  pub are : AreTopsOf left tops

-- the weight of the edge that a row points along, or 0
abbrev pub weight_up : NodeRow → ℕ
weight_up row = option_map_or (λ port. port.weight) (pointed_port row) 0

-- all places, those of less depth first
pub record IsByDepth (depths order : List ℕ) : Type 0 where
  pub within : (number place : ℕ) → slice_get order number ≡ Some place → place < length depths
  pub all : (place : ℕ) → place < length depths
      → (number : ℕ) × (slice_get order number ≡ Some place)
  pub rise : (number later place other : ℕ) → number < later → slice_get order number ≡ Some place
      → slice_get order later ≡ Some other
      → slice_index_or depths place 0 ≤ slice_index_or depths other 0
