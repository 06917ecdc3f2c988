-- One round, by what was found on the way to it.
use Rattle.std.proofs.Common.{ℕ, suc, Bool, List, Option, sym, subst, arith}
use Rattle.std.proofs.lemmas.Option.{slice_get_within}
use Rattle.pls_configuration.specs.declared.row.NodeRow.{NodeRow}
use Rattle.pls_configuration.specs.Walk.{Edge}
use Rattle.pls_centroid.specs.declared.level.CentroidLevel.{CentroidLevel}
use Rattle.pls_centroid.specs.declared.reaching.Way.{Way}
use Rattle.pls_centroid.specs.inner.Cut.{id_at}
use Rattle.pls_centroid.specs.inner.Reaching.{AreWaysOf}
use Rattle.pls_centroid.specs.inner.Rooted.{AreCentroidsOf, AreLeft, AreTopsOf, AreWeightsUp, IsStage}
use Rattle.pls_centroid.specs.inner.Rounds.{AreSaidAt, AreTaken, AreTakenToo, IsRooted, IsRound, IsSaid, edges_in}
use Rattle.pls_centroid.proofs.Staged.{left_weights, said_right, stage_of, taken_next}

-- the centroids of each stage with these tops
abbrev pub AreCentroids : List (Option ℕ) → List ℕ → List (Option ℕ) → Type 0
AreCentroids left tops centroids = (rows : List NodeRow) (edges : List Edge)
    → IsStage rows edges left tops → AreCentroidsOf rows edges tops centroids

-- the ways of each stage with these centroids
abbrev pub AreWays : List (Option ℕ) → List ℕ → List (Option ℕ) → List ℕ → List (Option Way)
    → Type 0
AreWays left tops centroids weights ways = (rows : List NodeRow) (edges : List Edge)
    → IsStage rows edges left tops → AreCentroidsOf rows edges tops centroids
    → AreWeightsUp rows left weights → AreWaysOf rows tops centroids ways

module _ (rows : List NodeRow) (parents : List (Option ℕ)) (weights : List ℕ)
    (rooted : IsRooted rows parents weights) (number : ℕ) (taken : List Bool)
    (flags : AreTaken rows number taken) (left : List (Option ℕ)) (are : AreLeft parents taken left)
    (tops : List ℕ) (tops_are : AreTopsOf left tops) (centroids : List (Option ℕ))
    (found : AreCentroids left tops centroids) where
  stage : IsStage rows (edges_in rows number) left tops
  stage = stage_of rows parents rooted.pointed taken left are rooted.net rooted.tree rooted.depth
      rooted.falls number flags tops tops_are

  pub round_said : (ways : List (Option Way)) → AreWays left tops centroids weights ways
      → (said : List (Option CentroidLevel)) → AreSaidAt rows taken tops centroids ways said
      → IsRound rows number said
  round_said ways ways_are said is = record {
    each = is.each;
    said = λ place entry at.
        let within = slice_get_within said place entry at in
        let each = is.each in
        subst (IsSaid rows number (id_at rows place)) (sym (is.entry place entry at))
        (said_right rows rooted.net rooted.tree number taken flags left tops stage centroids
        (found rows (edges_in rows number) stage) ways
        (ways_are rows (edges_in rows number) stage (found rows (edges_in rows number) stage)
        (left_weights rows parents rooted.pointed taken left are weights rooted.weigh)) place
        (omega (arith, within, each)));
  }

  pub round_taken : (new : List Bool) → AreTakenToo tops centroids taken new
      → AreTaken rows (suc number) new
  round_taken = taken_next rows rooted.net rooted.tree number taken flags left tops stage centroids
      (found rows (edges_in rows number) stage)
