-- Where the levels of a node lie.
use Rattle.std.specs.Prelude.{◌≡◌, List, length, map, ⊤}
use Rattle.pls_centroid.specs.declared.centroid_list.KeptLevels.{KeptLevels}
use Rattle.pls_centroid.specs.declared.centroid_list.KeptLevels.TheVariants.{Own as own, Shared as shared}
use Rattle.pls_centroid.specs.declared.level.CentroidLevel.{CentroidLevel}
use Rattle.pls_centroid.specs.inner.Rounds.{entries_at, said_on}

-- the levels, in memory of their own or in that of rounds
abbrev pub levels_kept : KeptLevels → List CentroidLevel
levels_kept (own levels) = levels.items
levels_kept (shared rounds place count) =
    said_on (entries_at (map (λ round. round.items) rounds.value.items) place)

-- those in rounds are so many
abbrev pub HasCount : KeptLevels → Type 0
HasCount (own levels) = ⊤
HasCount (shared rounds place count) = count
    ≡ length (said_on (entries_at (map (λ round. round.items) rounds.value.items) place))
