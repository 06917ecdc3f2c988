-- Maps that were decided in a round, each once for all nodes that have it.
use Rattle.std.specs.Prelude.{◌≡◌, ℕ, Bool, List, slice_get, Option, Some}
use Rattle.pls_configuration.specs.declared.row.NodeRow.{NodeRow}
use Rattle.pls_numbers.specs.Shape.{said_by}
use Rattle.pls_universal.specs.declared.map.MapLabel.{MapLabel}
use Rattle.pls_universal.specs.declared.deciding.DecidedMap.{DecidedMap}
use Rattle.pls_universal.specs.declared.deciding.DecidedMaps.{DecidedMaps}
use Rattle.pls_universal.specs.Reading.{map_shape}
use Rattle.pls_universal.specs.inner.Stating.{IsStated}

-- this was found out of the map of a label
pub record IsDecidedMap (takes : List Bool → Option (ℕ × List Bool)) (test : List NodeRow → Bool)
    (bits : List Bool) (map : DecidedMap) : Type 0 where
  pub own : MapLabel
  pub read : said_by map_shape takes bits ≡ Some own
  pub stated : IsStated test own.rows map.stated

-- so was each of the maps
pub record AreDecided (takes : List Bool → Option (ℕ × List Bool)) (test : List NodeRow → Bool)
    (labels : List (List Bool)) (decided : DecidedMaps) : Type 0 where
  pub each : (number : ℕ) (map : DecidedMap) → slice_get decided.maps.items number ≡ Some map
      → (bits : List Bool) × (slice_get labels map.place ≡ Some bits)
      × IsDecidedMap takes test bits map

-- the map with this number was found out of the map of this label
pub record IsNumberOf (takes : List Bool → Option (ℕ × List Bool)) (test : List NodeRow → Bool)
    (decided : DecidedMaps) (bits : List Bool) (number : ℕ) : Type 0 where
  pub map : DecidedMap
  pub at : slice_get decided.maps.items number ≡ Some map
  pub found : IsDecidedMap takes test bits map

-- the label at the place has this map behind its number
pub record HasMapAt (takes : List Bool → Option (ℕ × List Bool)) (labels : List (List Bool))
    (place : ℕ) (map : List Bool) : Type 0 where
  pub bits : List Bool
  pub own : ℕ
  pub at : slice_get labels place ≡ Some bits
  pub parts : takes bits ≡ Some (own, map)

-- so has the label of the map with this number
pub record IsNumberOfMap (takes : List Bool → Option (ℕ × List Bool)) (labels : List (List Bool))
    (decided : DecidedMaps) (map : List Bool) (number : ℕ) : Type 0 where
  pub known : DecidedMap
  pub at : slice_get decided.maps.items number ≡ Some known
  pub has : HasMapAt takes labels known.place map
