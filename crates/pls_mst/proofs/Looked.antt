-- What two labels say together that were looked at, and what one of them says; and levels that are
-- read behind the first.
use Rattle.std.proofs.Common.{◌≡◌, ◌∙◌, ℕ, suc, ◌-◌, ◌≤◌, ◌==◌, ◌&&◌, inl, inr, min, Bool, true, false, List, length, take, drop, Some, refl, sym, ap, subst, arith}
use Rattle.std.specs.List.{list_all}
use Rattle.std.proofs.lemmas.Bool.{cases_Bool, eq-eqb}
use Rattle.std.proofs.lemmas.List.{length-drop, take-map, take_all}
use Rattle.std.proofs.lemmas.List.Folds.{list_all-map}
use Rattle.pls_numbers.specs.Numbers.{NumbersLeft}
use Rattle.pls_numbers.specs.Taking.{IsTaken, items_in, items_off}
use Rattle.pls_numbers.specs.laws.TakingLaws.{items_off-next, items_off-take}
use Rattle.pls_boruvka.specs.declared.level.Level.{Level}
use Rattle.pls_mst.specs.declared.comparing.LevelComparison.{LevelComparison}
use Rattle.pls_mst.specs.declared.comparing.PortEdge.{PortEdge}
use Rattle.pls_mst.specs.declared.glance.MstGlance.{MstGlance}
use Rattle.pls_mst.specs.declared.glance.TheConstants.{FRONT}
use Rattle.pls_mst.specs.declared.kept_level.KeptLevel.{KeptLevel}
use Rattle.pls_levels.specs.Labels.{AreFewer, AreLevelsLeft, ArePassed}
use Rattle.pls_levels.proofs.KeptFronts.{kept_count-few, kept_front-take}
use Rattle.pls_mst.specs.Labels.{MstLabel, level_off, mst_levels}
use Rattle.pls_mst.specs.Rules.{names_all_fragments}
use Rattle.pls_mst.specs.inner.Comparing.{CountsAs, both_compared, compared}
use Rattle.pls_mst.specs.inner.Glance.{all_whole, front_of, glance_of, kept_in}
use Rattle.pls_mst.specs.inner.KeptLevel.{kept_form, whole}
use Rattle.pls_mst.proofs.Comparisons.{all_in_front, counts_behind, front_and_behind}
use Rattle.pls_mst.proofs.Fronts.{list_all-split}

-- what the levels of two labels say together, by what is kept of them
module _ (pointer : Bool) (between : PortEdge) (own other : MstLabel) (mine theirs : MstGlance)
    (shared first : ℕ) (found : LevelComparison) (own_is : glance_of own ≡ mine)
    (other_is : glance_of other ≡ theirs)
    (shared_is : shared ≡ min mine.head.count theirs.head.count)
    (mine_kept : first ≤ mine.kept) (theirs_kept : first ≤ theirs.kept)
    (found_is : CountsAs pointer found (compared between mine.head.own
    (take first (all_whole mine.front)) (take first (all_whole theirs.front)))) where
  -- as many as both have
  both_have : shared ≡ min (length own.levels) (length other.levels)
  both_have =
      let own_count : length own.levels ≡ mine.head.count =
      ap (λ (glance : MstGlance). glance.head.count) own_is in
      let other_count : length other.levels ≡ theirs.head.count =
      ap (λ (glance : MstGlance). glance.head.count) other_is in
      omega (arith, shared_is, own_count, other_count)

  -- so many are kept of each
  own_kept : first ≤ kept_in own.levels
  own_kept = omega (arith, mine_kept, ap (λ (glance : MstGlance). glance.kept) own_is)

  other_kept : first ≤ kept_in other.levels
  other_kept = omega (arith, theirs_kept, ap (λ (glance : MstGlance). glance.kept) other_is)

  -- the first levels of a list, as they are kept
  abbrev kept_first : List Level → List Level
  kept_first levels = take first (all_whole (front_of levels))

  -- what those in front say
  in_front : CountsAs pointer found
      (compared between own.own (kept_first own.levels) (kept_first other.levels))
  in_front = subst (CountsAs pointer found)
      (ap (λ (glance : MstGlance). compared between glance.head.own
      (take first (all_whole glance.front)) (take first (all_whole theirs.front))) (sym own_is)
      ∙ ap (λ (glance : MstGlance). compared between own.own (kept_first own.levels)
      (take first (all_whole glance.front))) (sym other_is)) found_is

  -- where there are no others
  pub looked_in_front : shared ≤ first
      → CountsAs pointer found (compared between own.own own.levels other.levels)
  looked_in_front few = subst (CountsAs pointer found)
      (all_in_front between own.own own.levels other.levels shared first both_have own_kept
      other_kept few) in_front

  -- where others are read behind them
  pub looked_behind : (here there : List ℕ) (all : LevelComparison)
      → (first ≤ length own.levels
      → items_in level_off (length own.levels - first) here ≡ Some (drop first own.levels))
      → (first ≤ length other.levels
      → items_in level_off (length other.levels - first) there ≡ Some (drop first other.levels))
      → all ≡ both_compared found (compared between mine.head.own
      (items_off level_off (shared - first) here) (items_off level_off (shared - first) there))
      → CountsAs pointer all (compared between own.own own.levels other.levels)
  looked_behind here there all here_is there_is all_is =
      let left : ℕ = shared - first in
      let mine_off : items_off level_off left here ≡ take left (drop first own.levels) =
      items_off-take level_off left (length own.levels - first) here (drop first own.levels)
      (here_is (omega (arith, own_kept, kept_count-few kept_form FRONT own.levels)))
      (omega (arith, both_have)) in
      let theirs_off : items_off level_off left there ≡ take left (drop first other.levels) =
      items_off-take level_off left (length other.levels - first) there (drop first other.levels)
      (there_is (omega (arith, other_kept, kept_count-few kept_form FRONT other.levels)))
      (omega (arith, both_have)) in
      let front : LevelComparison =
      compared between own.own (kept_first own.levels) (kept_first other.levels) in
      let behind : LevelComparison =
      compared between own.own (take left (drop first own.levels))
      (take left (drop first other.levels)) in
      let with_behind : all ≡ both_compared found behind =
      all_is
      ∙ ap (λ (glance : MstGlance). both_compared found (compared between glance.head.own
      (items_off level_off left here) (items_off level_off left there))) (sym own_is)
      ∙ ap (λ (behind : List Level). both_compared found
      (compared between own.own behind (items_off level_off left there))) mine_off
      ∙ ap (λ (behind : List Level). both_compared found
      (compared between own.own (take left (drop first own.levels)) behind)) theirs_off in
      subst (CountsAs pointer all)
      (front_and_behind between own.own own.levels other.levels shared first both_have own_kept
      other_kept) (counts_behind pointer all found front behind with_behind in_front)

-- whether the fragments of a label have the node's name, by what is kept of it
module _ (own : MstLabel) (glance : MstGlance) (first : ℕ) (first_has : Bool)
    (is : glance_of own ≡ glance) (first_kept : first ≤ glance.kept)
    (has_is : first_has ≡ list_all (λ level. level.fragment == glance.head.own)
    (take first glance.front)) where
  -- the fragment of a level has the node's name
  abbrev named : Level → Bool
  named level = level.fragment == own.own

  many : length own.levels ≡ glance.head.count
  many = ap (λ (glance : MstGlance). glance.head.count) is

  -- so many are kept of it
  kept : first ≤ kept_in own.levels
  kept = omega (arith, first_kept, ap (λ (glance : MstGlance). glance.kept) is)

  -- so it is with those in front
  first_named : first_has ≡ list_all named (take first own.levels)
  first_named = has_is
      ∙ ap (λ (glance : MstGlance). list_all (λ (level : KeptLevel).
      level.fragment == glance.head.own) (take first glance.front)) (sym is)
      ∙ sym (list_all-map named whole (take first (front_of own.levels)))
      ∙ ap (list_all named)
      (sym (take-map whole first (front_of own.levels))
      ∙ kept_front-take kept_form FRONT (λ level. refl) first own.levels kept)

  -- one in front has another
  pub none_named : first_has ≡ false → false ≡ names_all_fragments own
  none_named not =
      ap (λ (b : Bool). b && list_all named (drop first own.levels)) (sym not ∙ first_named)
      ∙ sym (list_all-split named first own.levels)

  -- all are in front
  pub first_are_all : glance.head.count ≤ first → first_has ≡ names_all_fragments own
  first_are_all few = first_named
      ∙ ap (list_all named) (take_all first own.levels (omega (arith, few, many)))

  -- others are read behind them
  pub others_named : (rest : List ℕ) (all : Bool)
      → first_has ≡ true
      → (first ≤ length own.levels
      → items_in level_off (length own.levels - first) rest ≡ Some (drop first own.levels))
      → all ≡ list_all (λ level. level.fragment == glance.head.own)
      (items_off level_off (glance.head.count - first) rest)
      → all ≡ names_all_fragments own
  others_named rest all have rest_is all_is =
      let left : ℕ = length own.levels - first in
      let off : items_off level_off left rest ≡ drop first own.levels =
      items_off-take level_off left left rest (drop first own.levels)
      (rest_is (omega (arith, kept, kept_count-few kept_form FRONT own.levels))) (omega arith)
      ∙ take_all left (drop first own.levels) (omega (arith, length-drop first own.levels)) in
      all_is
      ∙ ap (λ (glance : MstGlance). list_all (λ (level : Level). level.fragment == glance.head.own)
      (items_off level_off (glance.head.count - first) rest)) (sym is)
      ∙ ap (list_all named) off
      ∙ ap (λ (b : Bool). b && list_all named (drop first own.levels)) (sym have ∙ first_named)
      ∙ sym (list_all-split named first own.levels)

-- where all have one fragment so far, it is asked of those that are left
pub all_have-next : (own count : ℕ) (old new : NumbersLeft) (level : Level)
    → IsTaken level_off level old new → level.fragment ≡ own
    → list_all (λ (level : Level). level.fragment == own)
    (items_off level_off (suc count) old.numbers)
    ≡ list_all (λ (level : Level). level.fragment == own) (items_off level_off count new.numbers)
all_have-next own count old new level taken same =
    ap (list_all (λ (level : Level). level.fragment == own))
    (items_off-next level_off count level old new taken)
    ∙ ap (λ (b : Bool). b && list_all (λ (level : Level). level.fragment == own)
    (items_off level_off count new.numbers)) (eq-eqb level.fragment own same)

-- behind the first levels, of which there are as many, the others are left
pub passed_front : (first : ℕ) (levels : List Level) (old new : NumbersLeft) (passed : Bool)
    → (passed ≡ true → ArePassed mst_levels first old new)
    → (passed ≡ false → AreFewer mst_levels first old) → AreLevelsLeft mst_levels old levels
    → first ≤ length levels
    → items_in level_off (length levels - first) new.numbers ≡ Some (drop first levels)
passed_front first levels old new passed on missing are many = elim (cases_Bool passed) [
  | inl holds ↦ subst (λ (count : ℕ). items_in level_off count new.numbers
      ≡ Some (drop first levels)) (length-drop first levels) (on holds levels are)
  | inr fails ↦ absurd (omega (arith, missing fails levels are, many))
]
