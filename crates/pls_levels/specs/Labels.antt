-- Labels with levels, as lists of numbers: five numbers, of which the last says how many levels
-- follow, and then the numbers of each level.
use Rattle.std.specs.Prelude.{◌≡◌, ℕ, ◌<◌, Bool, List, [], ◌∷◌, length, drop, All, Option, Some, None, option_map, option_and_then}
use Rattle.std.specs.List.{flat_map}
use Rattle.pls_numbers.specs.Numbers.{NumbersLeft}
use Rattle.pls_numbers.specs.Shape.{Shape}
use Rattle.pls_numbers.specs.Taking.{IsExact, IsTaken, are_items, items_in, items_off}
use Rattle.pls_levels.specs.declared.label.LevelHead.{LevelHead}
use Rattle.pls_levels.specs.declared.label.LevelLabel.{LevelLabel}

-- how levels are numbers, and how a list holds them
pub record LevelForm (S X : Type 0) : Type 1 where
  -- the levels of a list
  pub items : S → List X
  -- the list of levels
  pub list_of : List X → S
  -- the numbers of a level
  pub numbers : X → List ℕ
  -- what else is asked of it
  pub Proper : X → Type 0
  -- the level that stands in front of numbers, and the numbers behind it
  pub off : List ℕ → Option (X × List ℕ)

-- a level is taken off exactly where the numbers of a proper one stand in front, of which there is
-- one at least, and a list is its levels
pub record IsExactForm {S X : Type 0} (form : LevelForm S X) : Type 0 where
  pub exact : IsExact form.off form.numbers form.Proper
  pub some : form.off [] ≡ None
  pub there : (levels : List X) → form.items (form.list_of levels) ≡ levels
  pub back : (list : S) → form.list_of (form.items list) ≡ list

-- the form of levels whose list is seen as they are
abbrev pub level_form : {X : Type 0} → (List ℕ → Option (X × List ℕ)) → (X → List ℕ)
    → (X → Type 0) → LevelForm (List X) X
level_form off numbers Proper = record {
  items = λ levels. levels;
  list_of = λ levels. levels;
  numbers = numbers;
  Proper = Proper;
  off = off;
}

-- what stands in front of the levels, of five numbers
abbrev pub head_with : ℕ → ℕ → ℕ → ℕ → ℕ → LevelHead
head_with root own parent depth count =
    record { root = root; own = own; parent = parent; depth = depth; count = count }

-- what stands in front of the levels, and the numbers behind it
abbrev pub head_off : List ℕ → Option (LevelHead × List ℕ)
head_off (root ∷ own ∷ parent ∷ depth ∷ count ∷ rest) =
    Some (record { root = root; own = own; parent = parent; depth = depth; count = count }, rest)
head_off list = None

-- the label of these levels with this in front
abbrev pub label_with : {S : Type 0} → LevelHead → S → LevelLabel S
label_with head levels = record {
  root = head.root;
  own = head.own;
  parent = head.parent;
  depth = head.depth;
  levels = levels;
}

module _ {S X : Type 0} (form : LevelForm S X) where
  -- the levels of a list
  abbrev pub items_of : S → List X
  items_of list = form.items list

  -- the numbers of a level
  abbrev pub numbers_of : X → List ℕ
  numbers_of level = form.numbers level

  -- what stands in a label in front of its levels
  abbrev pub head_of : LevelLabel S → LevelHead
  head_of label = head_with label.root label.own label.parent label.depth
      (length (form.items label.levels))

  -- the numbers of a label, in the order in which they are written
  abbrev pub numbers_of_level_label : LevelLabel S → List ℕ
  numbers_of_level_label label =
      label.root ∷ label.own ∷ label.parent ∷ label.depth ∷ length (form.items label.levels)
      ∷ flat_map form.numbers (form.items label.levels)

  -- the label of these levels, in a list, with this in front
  abbrev pub label_listed : LevelHead → List X → LevelLabel S
  label_listed head levels = label_with head (form.list_of levels)

  -- the label with this in front of these numbers, where they are as many levels as it says
  abbrev pub label_behind : LevelHead × List ℕ → Option (LevelLabel S)
  label_behind front = option_map (λ levels. record {
    root = front.0.root;
    own = front.0.own;
    parent = front.0.parent;
    depth = front.0.depth;
    levels = form.list_of levels;
  }) (items_in form.off front.0.count front.1)

  -- the label that has these numbers, if there is one
  abbrev pub level_label_of : List ℕ → Option (LevelLabel S)
  level_label_of list = option_and_then label_behind (head_off list)

  -- labels of these numbers, each in code, with proper levels
  abbrev pub level_shape : Shape (LevelLabel S)
  level_shape = record {
    kinds = [];
    numbers = numbers_of_level_label;
    Proper = λ label. All form.Proper (form.items label.levels);
    of_numbers = level_label_of;
  }

  -- the level stood in front of what was left, and what is left now stands behind it
  abbrev pub IsLevelTaken : X → NumbersLeft → NumbersLeft → Type 0
  IsLevelTaken level old new = IsTaken form.off level old new

  -- no level stands in front
  abbrev pub HasNoLevel : NumbersLeft → Type 0
  HasNoLevel left = form.off left.numbers ≡ None

  -- so many levels are left and nothing more
  abbrev pub are_levels : ℕ → NumbersLeft → Bool
  are_levels count left = are_items form.off count left

  -- so many levels that stand in front, or fewer where what comes next is none
  abbrev pub levels_off : ℕ → List ℕ → List X
  levels_off count list = items_off form.off count list

  -- these levels are left, and no number behind them
  abbrev pub AreLevelsLeft : NumbersLeft → List X → Type 0
  AreLevelsLeft left levels = items_in form.off (length levels) left.numbers ≡ Some levels

  -- behind so many levels of those that were left, the others are left
  abbrev pub ArePassed : ℕ → NumbersLeft → NumbersLeft → Type 0
  ArePassed count old new =
      (levels : List X) → AreLevelsLeft old levels → AreLevelsLeft new (drop count levels)

  -- fewer levels than so many are left
  abbrev pub AreFewer : ℕ → NumbersLeft → Type 0
  AreFewer count left = (levels : List X) → AreLevelsLeft left levels → length levels < count
