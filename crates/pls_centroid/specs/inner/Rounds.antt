-- What the rounds say that find one level after another, by places.
use Rattle.std.specs.Prelude.{◌≡◌, ℕ, zero, suc, ◌==◌, ◌||◌, Bool, true, false, if◌then◌else◌, List, [], ◌∷◌, length, map, slice_get, slice_index_or, Contains, Option, Some, None}
use Rattle.std.specs.List.{range_with_len}
use Rattle.std.specs.Option.{option_map_or}
use Rattle.pls_configuration.specs.declared.row.NodeRow.{NodeRow}
use Rattle.pls_configuration.specs.Configuration.{IsNetwork, ids_of}
use Rattle.pls_configuration.specs.Walk.{Edge}
use Rattle.pls_facts.specs.Pointer.{Falls}
use Rattle.pls_facts.specs.SpanningTree.{IsTree, pointed_edges}
use Rattle.pls_centroid.specs.Centroid.{is_centroid, next_edges}
use Rattle.pls_centroid.specs.Levels.{IsCentroidLevelOf}
use Rattle.pls_centroid.specs.declared.level.CentroidLevel.{CentroidLevel}
use Rattle.pls_centroid.specs.declared.reaching.Way.{Way}
use Rattle.pls_centroid.specs.inner.Cut.{id_at}
use Rattle.pls_centroid.specs.inner.Rooted.{ArePointed, AreWeightsUp}

-- the edges that hold the pieces of a level together, by its number
abbrev pub edges_in : List NodeRow → ℕ → List Edge
edges_in rows zero = pointed_edges rows
edges_in rows (suc number) = next_edges (ids_of rows) (edges_in rows number)

-- a node has been a centroid before the level of this number; it is then one of a piece of its own
abbrev pub is_taken : List NodeRow → ℕ → ℕ → Bool
is_taken rows zero u = false
is_taken rows (suc number) u = is_centroid (edges_in rows number) (ids_of rows) u

-- what a round says of a node: nothing where it has been a centroid, and else its level
abbrev pub IsSaid : List NodeRow → ℕ → ℕ → Option CentroidLevel → Type 0
IsSaid rows number u None = is_taken rows number u ≡ true
IsSaid rows number u (Some level) =
    (is_taken rows number u ≡ false) × IsCentroidLevelOf rows (edges_in rows number) u level

-- the round of this number says so of each place
pub record IsRound (rows : List NodeRow) (number : ℕ) (round : List (Option CentroidLevel))
    : Type 0 where
  pub each : length round ≡ length rows
  pub said : (place : ℕ) (entry : Option CentroidLevel) → slice_get round place ≡ Some entry
      → IsSaid rows number (id_at rows place) entry

-- so do the rounds from this number on
abbrev pub AreRoundsFrom : List NodeRow → ℕ → List (List (Option CentroidLevel)) → Type 0
AreRoundsFrom rows number [] = Unit {0}
AreRoundsFrom rows number (round ∷ rounds) =
    IsRound rows number round × AreRoundsFrom rows (suc number) rounds

-- so do these rounds from the first on, and then each node has been a centroid
pub record AreAllRounds (rows : List NodeRow) (rounds : List (List (Option CentroidLevel)))
    : Type 0 where
  pub are : AreRoundsFrom rows 0 rounds
  pub all : (u : ℕ) → Contains (ids_of rows) u → is_taken rows (length rounds) u ≡ true

-- the flags say which nodes have been centroids before the level of this number
pub record AreTaken (rows : List NodeRow) (number : ℕ) (taken : List Bool) : Type 0 where
  pub each : length taken ≡ length rows
  pub flag : (place : ℕ) (flag : Bool) → slice_get taken place ≡ Some flag
      → flag ≡ is_taken rows number (id_at rows place)

-- the level of a place, by its centroid and its way, where both are there
abbrev pub level_by : List NodeRow → Option ℕ → Option Way → Option CentroidLevel
level_by rows None way = None
level_by rows (Some c) None = None
level_by rows (Some c) (Some way) = Some (record {
  centroid = id_at rows c;
  hops = way.hops;
  greatest = way.greatest;
})

-- what is said of a place: nothing where it is taken away, and else its level
abbrev pub said_at : List NodeRow → List Bool → List ℕ → List (Option ℕ) → List (Option Way) → ℕ
    → Option CentroidLevel
said_at rows taken tops centroids ways place = if slice_index_or taken place false then None
    else level_by rows (slice_index_or centroids (slice_index_or tops place 0) None)
    (slice_index_or ways place None)

-- the place is the centroid of its piece
abbrev pub is_own : List ℕ → List (Option ℕ) → ℕ → Bool
is_own tops centroids place = option_map_or (λ c. c == place)
    (slice_index_or centroids (slice_index_or tops place 0) None) false

-- for each place what is said of it
pub record AreSaidAt (rows : List NodeRow) (taken : List Bool) (tops : List ℕ)
    (centroids : List (Option ℕ)) (ways : List (Option Way)) (said : List (Option CentroidLevel))
    : Type 0 where
  pub each : length said ≡ length rows
  pub entry : (place : ℕ) (entry : Option CentroidLevel) → slice_get said place ≡ Some entry
      → entry ≡ said_at rows taken tops centroids ways place

-- the flags with those of the centroids
pub record AreTakenToo (tops : List ℕ) (centroids : List (Option ℕ)) (old new : List Bool)
    : Type 0 where
  pub each : length new ≡ length old
  pub flag : (place : ℕ) (flag : Bool) → slice_get new place ≡ Some flag
      → flag ≡ (slice_index_or old place false || is_own tops centroids place)

-- a tree by places: where each place points, and how heavy the edge to there is
pub record IsRooted (rows : List NodeRow) (parents : List (Option ℕ)) (weights : List ℕ)
    : Type 0 where
  pub net : IsNetwork rows
  pub tree : IsTree rows
  pub depth : ℕ → ℕ
  pub falls : Falls rows depth
  pub pointed : ArePointed rows parents
  pub weigh : AreWeightsUp rows parents weights

-- what rounds say of a node one after another, up to the first that says nothing
abbrev pub said_on : List (Option CentroidLevel) → List CentroidLevel
said_on [] = []
said_on (None ∷ entries) = []
said_on (Some level ∷ entries) = level ∷ said_on entries

-- what each round says of the node at a place
abbrev pub entries_at : List (List (Option CentroidLevel)) → ℕ → List (Option CentroidLevel)
entries_at rounds place = map (λ round. slice_index_or round place None) rounds

-- what the rounds say of each of so many places
abbrev pub lists_said : List (List (Option CentroidLevel)) → ℕ → List (List CentroidLevel)
lists_said rounds count = map (λ place. said_on (entries_at rounds place)) (range_with_len 0 count)
