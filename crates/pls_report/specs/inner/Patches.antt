-- A text by what is other than in the text before it.
use Rattle.std.specs.Prelude.{ℕ, List, [], ◌∷◌, ◌++◌, take, drop, sum_by}
use Rattle.pls_report.specs.declared.patches.PatchPlace.{PatchPlace}

-- so many bytes of a text stay, the next so many go, and others come in their place
pub record Patch : Type 0 where
  pub stays : ℕ
  pub goes : ℕ
  pub comes : List ℕ

-- what patches make of a text, one behind another: behind the last of them all stays
abbrev pub patch_text : List Patch → List ℕ → List ℕ
patch_text [] text = text
patch_text (patch ∷ patches) text =
    take patch.stays text
    ++ (patch.comes ++ patch_text patches (drop patch.goes (drop patch.stays text)))

-- the patches of which the new bytes stand in a text, one behind another
abbrev pub patches_at : List PatchPlace → List ℕ → List Patch
patches_at [] text = []
patches_at (place ∷ places) text =
    record { stays = place.stays; goes = place.goes; comes = take place.length text }
    ∷ patches_at places (drop place.length text)

-- how many new bytes they have together
abbrev pub length_placed : List PatchPlace → ℕ
length_placed places = sum_by (λ place. place.length) places
