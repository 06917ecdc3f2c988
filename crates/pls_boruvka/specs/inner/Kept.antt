-- Where the levels of a node lie.
use Rattle.std.specs.Prelude.{List}
use Rattle.pls_boruvka.specs.declared.level.Level.{Level}
use Rattle.pls_boruvka.specs.declared.level_list.KeptLevels.{KeptLevels}
use Rattle.pls_boruvka.specs.declared.level_list.KeptLevels.TheVariants.{Own as own, Shared as shared}
use Rattle.pls_boruvka.specs.inner.Chosen.{said_at}

-- the levels, in memory of their own or in that of rounds
abbrev pub levels_kept : KeptLevels → List Level
levels_kept (own levels) = levels.items
levels_kept (shared rounds place) = said_at rounds.value.items place
