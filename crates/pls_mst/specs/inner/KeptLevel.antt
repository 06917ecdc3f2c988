-- Levels in 32 bits a number.
use Rattle.std.specs.Prelude.{◌&&◌, Bool}
use Rattle.pls_boruvka.specs.declared.level.Level.{Level}
use Rattle.pls_levels.specs.inner.ShortForm.{ShortForm, is_short}
use Rattle.pls_mst.specs.declared.kept_level.KeptLevel.{KeptLevel}

-- whether all numbers of a level are below 2^32
abbrev pub fits : Level → Bool
fits level =
    is_short level.fragment && (is_short level.weight && (is_short level.a && is_short level.b))

-- the level that is kept for one that fits
abbrev pub kept_of : Level → KeptLevel
kept_of level = record {
  fragment = level.fragment;
  weight = level.weight;
  a = level.a;
  b = level.b;
}

-- the level that is kept
abbrev pub whole : KeptLevel → Level
whole kept = record { fragment = kept.fragment; weight = kept.weight; a = kept.a; b = kept.b }

-- what stands where there is no level
abbrev pub no_level : KeptLevel
no_level = record { fragment = 0; weight = 0; a = 0; b = 0 }

-- levels are kept so
abbrev pub kept_form : ShortForm Level KeptLevel
kept_form = record { fits = fits; short = kept_of; whole = whole; none = no_level }
