-- Labels of disjunctions: a tag, and behind it the label of the part that the tag names.
use Rattle.std.specs.Prelude.{ℕ, ◌+◌, get_or, max, Bool, true, false, List, [], ◌∷◌, length, ◌⊎◌}
use Rattle.pls_configuration.specs.declared.row.NodeRow.{NodeRow}
use Rattle.pls_parts.specs.Joined.{ArePut}

-- the label of a list at a place, behind a tag
abbrev pub tagged_at : Bool → List (List Bool) → ℕ → List Bool
tagged_at tag rests place = tag ∷ get_or rests place []

-- labels that are, place by place, these behind a tag
abbrev pub EachTagged : Bool → List (List Bool) → List (List Bool) → Type 0
EachTagged tag rests labels = ArePut (tagged_at tag rests) (length rests) labels

-- the labels are these, each behind this tag
pub record AreTagged (tag : Bool) (marked : List NodeRow → List (List Bool) → Type 0)
    (rows : List NodeRow) (labels : List (List Bool)) : Type 0 where
  pub rests : List (List Bool)
  pub rests_are : marked rows rests
  pub tagged : ArePut (λ place. tag ∷ get_or rests place []) (length rests) labels

-- the labels of a disjunction are those of the first part with tag 0 where its property holds, else
-- those of the second with tag 1
abbrev pub AreOneOf : (List NodeRow → Type 0) → (List NodeRow → List (List Bool) → Type 0)
    → (List NodeRow → List (List Bool) → Type 0) → List NodeRow → List (List Bool) → Type 0
AreOneOf holds one two rows labels =
    (holds rows × AreTagged false one rows labels)
    ⊎ ((holds rows → ⊥) × AreTagged true two rows labels)

-- how long a label of a disjunction is at most
abbrev pub longest_one_of : ℕ → ℕ → ℕ
longest_one_of first second = 1 + max first second
