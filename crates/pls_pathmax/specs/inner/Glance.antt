-- What is kept of a label at a glance.
use Rattle.std.specs.Prelude.{ℕ, ◌+◌, ◌-◌, ◌==◌, nat_lt, Bool, false, ◌&&◌, if◌then◌else◌, List, length, min, set, slice_get, Option}
use Rattle.std.specs.Option.{option_map_or}
use Rattle.pls_centroid.specs.declared.level.CentroidLevel.{CentroidLevel}
use Rattle.pls_levels.specs.declared.label.LevelHead.{LevelHead}
use Rattle.pls_pathmax.specs.declared.glance.PathMaxGlance.{PathMaxGlance}
use Rattle.pls_pathmax.specs.declared.gathering.TheConstants.{WINDOW}
use Rattle.pls_pathmax.specs.declared.kept_level.KeptLevel.{KeptLevel}
use Rattle.pls_levels.specs.inner.ShortForm.{IsKeptFront, in_full, kept_count, kept_front}
use Rattle.pls_pathmax.specs.Labels.{PathMaxLabel}
use Rattle.pls_pathmax.specs.inner.KeptLevel.{fits, kept_form, kept_of}
use Rattle.pls_pathmax.specs.inner.Reading.{head_said}

-- the level is the own one of the node with this name, its centroid, without a hop
abbrev pub is_own_level : ℕ → CentroidLevel → Bool
is_own_level own level = level.hops == 0 && level.centroid == own

-- of these levels so many are kept, in this front
abbrev pub IsFront : ℕ → ℕ → List KeptLevel → List CentroidLevel → Type 0
IsFront N kept front levels = IsKeptFront kept_form N kept front levels

-- where so many levels are kept of as many as this number, the next one is kept too
abbrev pub is_kept_too : ℕ → ℕ → ℕ → CentroidLevel → Bool
is_kept_too N kept number level = number == kept && (nat_lt number N && fits level)

-- how many are kept with it
abbrev pub kept_with : ℕ → ℕ → ℕ → CentroidLevel → ℕ
kept_with N kept number level = if is_kept_too N kept number level then kept + 1 else kept

-- the levels that are kept with it
abbrev pub front_with : ℕ → ℕ → ℕ → CentroidLevel → List KeptLevel → List KeptLevel
front_with N kept number level front =
    if is_kept_too N kept number level then set front kept (kept_of level) else front

-- the levels that are kept, in full
abbrev pub all_whole : List KeptLevel → List CentroidLevel
all_whole front = in_full kept_form front

-- how many levels are kept of both
abbrev pub both_keep : (N : ℕ) → PathMaxGlance N → PathMaxGlance N → ℕ
both_keep N mine theirs = min (min mine.kept theirs.kept) (min N WINDOW)

-- both have levels behind so many
abbrev pub both_go_on : (N : ℕ) → PathMaxGlance N → PathMaxGlance N → ℕ → Bool
both_go_on N mine theirs count = nat_lt count mine.head.count && nat_lt count theirs.head.count

-- the last level, where there is one
abbrev pub last_level : List CentroidLevel → Option CentroidLevel
last_level levels = slice_get levels (length levels - 1)

-- what is kept of levels with this in front, of which so many are kept in this front, and this is
-- the last
abbrev pub glance_with : (N : ℕ) → LevelHead → ℕ → List KeptLevel → Option CentroidLevel
    → PathMaxGlance N
glance_with N head kept front last = record {
  head = head;
  kept = kept;
  front = front;
  ends_at_own = option_map_or (is_own_level head.own) last false;
}

-- what is kept of a label: what stands in front of its levels, the first of them, and whether the
-- last is the node's own
abbrev pub glance_said : (N : ℕ) → PathMaxLabel → PathMaxGlance N
glance_said N label = glance_with N (head_said label) (kept_count kept_form N label.levels)
    (kept_front kept_form N label.levels) (last_level label.levels)

-- what stands in front of the levels, of what is kept
abbrev pub head_seen : (N : ℕ) → PathMaxGlance N → LevelHead
head_seen N glance = glance.head
