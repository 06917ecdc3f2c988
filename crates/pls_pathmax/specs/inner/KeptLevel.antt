-- Levels in 32 bits a number.
use Rattle.std.specs.Prelude.{◌&&◌, Bool}
use Rattle.pls_centroid.specs.declared.level.CentroidLevel.{CentroidLevel}
use Rattle.pls_levels.specs.inner.ShortForm.{ShortForm, is_short}
use Rattle.pls_pathmax.specs.declared.kept_level.KeptLevel.{KeptLevel}

-- whether all numbers of a level are below 2^32
abbrev pub fits : CentroidLevel → Bool
fits level = is_short level.centroid && (is_short level.hops && is_short level.greatest)

-- the level that is kept for one that fits
abbrev pub kept_of : CentroidLevel → KeptLevel
kept_of level =
    record { centroid = level.centroid; hops = level.hops; greatest = level.greatest }

-- the level that is kept
abbrev pub whole : KeptLevel → CentroidLevel
whole kept = record { centroid = kept.centroid; hops = kept.hops; greatest = kept.greatest }

-- what stands where there is no level
abbrev pub no_level : KeptLevel
no_level = record { centroid = 0; hops = 0; greatest = 0 }

-- levels are kept so
abbrev pub kept_form : ShortForm CentroidLevel KeptLevel
kept_form = record { fits = fits; short = kept_of; whole = whole; none = no_level }
