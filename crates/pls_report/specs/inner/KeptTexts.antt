-- The texts of looks that are kept, each by what is other than at the one before.
use Rattle.std.specs.Prelude.{ℕ, ◌+◌, ◌<◌, ◌≤◌, List, [], ◌∷◌, ◌++◌, take, length}
use Rattle.pls_report.specs.declared.kept_looks.KeptLook.{KeptLook}
use Rattle.pls_report.specs.inner.Kept.{counts_text}
use Rattle.pls_report.specs.inner.Patches.{patch_text}

-- the lines of the last of these looks as one text, where a text is that of the look before them
abbrev pub last_lines : List ℕ → List KeptLook → List ℕ
last_lines text [] = text
last_lines text (look ∷ looks) = last_lines (patch_text look.patches text) looks

-- the texts of looks, the first of which has this number
abbrev pub texts_from : ℕ → List ℕ → List KeptLook → List (List ℕ)
texts_from number text [] = []
texts_from number text (look ∷ looks) =
    (patch_text look.patches text ++ counts_text number look.counts)
    ∷ texts_from (number + 1) (patch_text look.patches text) looks

-- there is room for so many bytes, and the lines of no look are more
abbrev pub HasRoomForAll : ℕ → List KeptLook → Type 0
HasRoomForAll room looks = (i : ℕ) → i < length looks
    → length (last_lines [] (take (i + 1) looks)) ≤ room
