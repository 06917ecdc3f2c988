-- What two labels say together, by the levels that are kept of both.
use Rattle.std.proofs.Common.{◌≡◌, ◌∙◌, ◌<◌, ◌≤◌, ℕ, zero, suc, ◌+◌, ◌||◌, ◌⊎◌, inl, inr, nat_lt, Bool, true, false, List, [], ◌∷◌, get_or, length, slice_get, take, drop, refl, sym, ap, arith}
use Rattle.std.specs.List.{list_any, zip}
use Rattle.std.proofs.lemmas.Bool.{and_cases, cases_lt, ltb-false, or_left}
use Rattle.std.proofs.lemmas.List.{length-take, take-append-drop, take_all}
use Rattle.std.proofs.lemmas.List.Folds.{list_any-append}
use Rattle.std.proofs.lemmas.Option.{slice_get_past}
use Rattle.std.proofs.lemmas.Slice.Zip.{length-zip}
use Rattle.pls_centroid.specs.declared.level.CentroidLevel.{CentroidLevel}
use Rattle.pls_levels.proofs.KeptFronts.{kept_front-take, kept_split}
use Rattle.pls_pathmax.specs.declared.glance.PathMaxGlance.{PathMaxGlance}
use Rattle.pls_pathmax.specs.declared.kept_level.KeptLevel.{KeptLevel}
use Rattle.pls_pathmax.specs.Labels.{PathMaxLabel}
use Rattle.pls_pathmax.specs.Rules.{meet_lightly}
use Rattle.pls_pathmax.specs.inner.Glance.{all_whole, both_go_on, both_keep, glance_said}
use Rattle.pls_pathmax.specs.inner.KeptLevel.{kept_form, no_level, whole}
use Rattle.pls_pathmax.specs.inner.OnePass.{leads_from}
use Rattle.pls_pathmax.proofs.Compared.{leads_nothing, meet_from, meet_next, nothing_leads}

-- what stands at a place among the first items
slice_get-take : {X : Type 0} (count : ℕ) (xs : List X) (k : ℕ) → k < count
    → slice_get (take count xs) k ≡ slice_get xs k
slice_get-take zero xs k within = absurd (omega (arith, within))
slice_get-take (suc count) [] k within = refl
slice_get-take (suc count) (x ∷ xs) zero within = refl
slice_get-take (suc count) (x ∷ xs) (suc k) within =
    slice_get-take count xs k (omega (arith, within))

-- the first items of two lists side by side are the first that stand side by side
zip-take : {X Y : Type 0} (count : ℕ) (xs : List X) (ys : List Y)
    → zip (take count xs) (take count ys) ≡ take count (zip xs ys)
zip-take zero xs ys = refl
zip-take (suc count) [] ys = refl
zip-take (suc count) (x ∷ xs) [] = refl
zip-take {X} {Y} (suc count) (x ∷ xs) (y ∷ ys) =
    let one : X × Y = (x, y) in
    ap (λ (rest : List (X × Y)). one ∷ rest) (zip-take count xs ys)

-- of two fronts, whether nodes meet lightly on the next level or on those behind it
pub front_meet_next : (weight count place : ℕ) (mine theirs : List KeptLevel)
    (here there : CentroidLevel) → place < count → place < length mine → place < length theirs
    → here ≡ whole (get_or mine place no_level) → there ≡ whole (get_or theirs place no_level)
    → meet_from weight (take count (all_whole mine)) (take count (all_whole theirs)) place
    ≡ (meet_lightly weight here there
    || meet_from weight (take count (all_whole mine)) (take count (all_whole theirs)) (place + 1))
front_meet_next weight count place mine theirs here there within mine_has theirs_has here_is
    there_is =
    let mine_first : List CentroidLevel = take count (all_whole mine) in
    let theirs_first : List CentroidLevel = take count (all_whole theirs) in
    meet_next weight mine_first theirs_first place here there
    (kept_split kept_form count mine place within mine_has
    ∙ ap (λ (level : CentroidLevel). level ∷ drop (place + 1) mine_first) (sym here_is))
    (kept_split kept_form count theirs place within theirs_has
    ∙ ap (λ (level : CentroidLevel). level ∷ drop (place + 1) theirs_first) (sym there_is))

-- the levels of two labels, of which so many are kept of both
module _ (N weight : ℕ) (own other : PathMaxLabel) (mine theirs : PathMaxGlance N) (count : ℕ)
    (own_is : glance_said N own ≡ mine) (other_is : glance_said N other ≡ theirs)
    (count_is : count ≡ both_keep N mine theirs) where
  own_front : take count (all_whole mine.front) ≡ take count own.levels
  own_front = ap (λ (glance : PathMaxGlance N). take count (all_whole glance.front)) (sym own_is)
      ∙ kept_front-take kept_form N (λ level. refl) count own.levels
      (omega (arith, count_is, ap (λ (glance : PathMaxGlance N). glance.kept) own_is))

  other_front : take count (all_whole theirs.front) ≡ take count other.levels
  other_front = ap (λ (glance : PathMaxGlance N). take count (all_whole glance.front)) (sym other_is)
      ∙ kept_front-take kept_form N (λ level. refl) count other.levels
      (omega (arith, count_is, ap (λ (glance : PathMaxGlance N). glance.kept) other_is))

  -- where not both go on behind these, one has no more
  ends : both_go_on N mine theirs count ≡ false
      → (length own.levels ≤ count) ⊎ (length other.levels ≤ count)
  ends none =
      let own_count : length own.levels ≡ mine.head.count =
      ap (λ (glance : PathMaxGlance N). glance.head.count) own_is in
      let other_count : length other.levels ≡ theirs.head.count =
      ap (λ (glance : PathMaxGlance N). glance.head.count) other_is in
      elim (and_cases (nat_lt count mine.head.count) (nat_lt count theirs.head.count) none) [
        | inl here ↦ inl (omega (arith, own_count, ltb-false count mine.head.count here))
        | inr there ↦ inr (omega (arith, other_count, ltb-false count theirs.head.count there))
      ]

  -- what leads on among them leads on
  module _ (none : both_go_on N mine theirs count ≡ false) where
    abbrev leads_at : List CentroidLevel → List CentroidLevel → ℕ → Bool
    leads_at here there k = leads_from weight (slice_get here k) (slice_get there k)

    leads_past : (k : ℕ) → count ≤ k → leads_at own.levels other.levels k ≡ false
    leads_past k past = elim (ends none) [
      | inl few ↦ nothing_leads weight (slice_get own.levels k) (slice_get other.levels k)
          (slice_get_past own.levels k (omega (arith, few, past)))
      | inr few ↦ leads_nothing weight (slice_get own.levels k) (slice_get other.levels k)
          (slice_get_past other.levels k (omega (arith, few, past)))
    ]

    leads_kept : (k : ℕ) → leads_at (take count own.levels) (take count other.levels) k
        ≡ leads_at own.levels other.levels k
    leads_kept k = elim (cases_lt k count) [
      | inl within ↦ ap (λ here. leads_from weight here (slice_get (take count other.levels) k))
          (slice_get-take count own.levels k within)
          ∙ ap (leads_from weight (slice_get own.levels k))
          (slice_get-take count other.levels k within)
      | inr past ↦ nothing_leads weight (slice_get (take count own.levels) k)
          (slice_get (take count other.levels) k)
          (slice_get_past (take count own.levels) k
          (omega (arith, past, length-take count own.levels)))
          ∙ sym (leads_past k past)
    ]

    -- so the flags of all levels are noted by them
    pub noted_in_front : (first k : ℕ) (old flags : List Bool) → first ≡ 0
        → get_or flags k false ≡ (get_or old k false
        || leads_at (take count (all_whole mine.front)) (take count (all_whole theirs.front)) k)
        → get_or flags k false
        ≡ (get_or old k false || leads_at own.levels other.levels (first + k))
    noted_in_front first k old flags zero_is noted =
        let same : k ≡ first + k = omega (arith, zero_is) in
        noted
        ∙ ap (λ (here : List CentroidLevel).
        get_or old k false || leads_at here (take count (all_whole theirs.front)) k) own_front
        ∙ ap (λ (there : List CentroidLevel).
        get_or old k false || leads_at (take count own.levels) there k) other_front
        ∙ ap (λ (leads : Bool). get_or old k false || leads) (leads_kept k)
        ∙ ap (λ (place : ℕ). get_or old k false || leads_at own.levels other.levels place) same

  -- whether the nodes meet lightly on some level
  abbrev beside : CentroidLevel × CentroidLevel → Bool
  beside both = meet_lightly weight both.0 both.1

  abbrev meets : Bool
  meets = list_any beside (zip own.levels other.levels)

  module _ (met : Bool) (is : met ≡ list_any beside
      (zip (take count (all_whole mine.front)) (take count (all_whole theirs.front)))) where
    met_in_front : met ≡ list_any beside (take count (zip own.levels other.levels))
    met_in_front = is
        ∙ ap (λ (here : List CentroidLevel).
        list_any beside (zip here (take count (all_whole theirs.front)))) own_front
        ∙ ap (λ (there : List CentroidLevel).
        list_any beside (zip (take count own.levels) there)) other_front
        ∙ ap (list_any beside) (zip-take count own.levels other.levels)

    -- where they do on one of these
    pub meets_in_front : met ≡ true → meets ≡ true
    meets_in_front meet =
        let both : List (CentroidLevel × CentroidLevel) = zip own.levels other.levels in
        ap (list_any beside) (sym (take-append-drop count both))
        ∙ list_any-append beside (take count both) (drop count both)
        ∙ or_left (list_any beside (take count both)) (list_any beside (drop count both))
        (sym met_in_front ∙ meet)

    -- where they do on none of these, and not both go on
    pub meets_nowhere : both_go_on N mine theirs count ≡ false → met ≡ meets
    meets_nowhere none = met_in_front
        ∙ ap (list_any beside) (take_all count (zip own.levels other.levels)
        (let many = length-zip own.levels other.levels in elim (ends none) [
          | inl few ↦ omega (arith, few, many)
          | inr few ↦ omega (arith, few, many)
        ]))
