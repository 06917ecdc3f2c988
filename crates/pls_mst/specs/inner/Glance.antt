-- What is kept of a label at a glance.
use Rattle.std.specs.Prelude.{ℕ, List}
use Rattle.pls_boruvka.specs.declared.level.Level.{Level}
use Rattle.pls_mst.specs.declared.glance.MstGlance.{MstGlance}
use Rattle.pls_mst.specs.declared.glance.TheConstants.{FRONT}
use Rattle.pls_mst.specs.declared.kept_level.KeptLevel.{KeptLevel}
use Rattle.pls_levels.specs.inner.ShortForm.{IsKeptFront, in_full, kept_count, kept_front}
use Rattle.pls_mst.specs.Labels.{MstLabel}
use Rattle.pls_mst.specs.inner.KeptLevel.{kept_form}
use Rattle.pls_mst.specs.inner.Reading.{head_said}

-- how many levels are kept
abbrev pub kept_in : List Level → ℕ
kept_in levels = kept_count kept_form FRONT levels

-- the levels that are kept
abbrev pub front_of : List Level → List KeptLevel
front_of levels = kept_front kept_form FRONT levels

-- of these levels so many are kept, in this front
abbrev pub IsFront : ℕ → List KeptLevel → List Level → Type 0
IsFront kept front levels = IsKeptFront kept_form FRONT kept front levels

-- the levels that are kept, in full
abbrev pub all_whole : List KeptLevel → List Level
all_whole front = in_full kept_form front

-- what is kept of a label
abbrev pub glance_of : MstLabel → MstGlance
glance_of label = record {
  head = head_said label;
  kept = kept_in label.levels;
  front = front_of label.levels;
}
